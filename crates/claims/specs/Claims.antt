-- All that is claimed of the definitions, in one record. The function `claims::hold` is checked for it, so that no claim stands without its proof.
use Rattle.claims.specs.Days.{CompleteSet, AnotherDay, DayInstances}
use Rattle.claims.specs.Demands.{Demand2, Demand3}
use Rattle.claims.specs.Examples.{Examples, Corners}
use Rattle.claims.specs.General.{Opening, DealtAnywhere}
use Rattle.claims.specs.HandIn.{ReadsBack, AtMost, AlwaysFits, HandInInstances}
use Rattle.claims.specs.Instances.{Instances}
use Rattle.claims.specs.Pairs.{PairCounts}
use Rattle.claims.specs.QuickLook.{TableRule, QuickLook, AllAgree, LookInstances}
use Rattle.claims.specs.Rules.{Rules}
use Rattle.claims.specs.Secrecy.{Secrecy, PerfectSecrecy, SecrecyAnywhere, SecrecyInstances}

pub record Claims : Type 0 where
  pub demand2 : Demand2
  pub demand3 : Demand3
  -- demands 2 and 3 are not empty, and say no more than is so
  pub instances : Instances
  -- demand 3 for any distinct points
  pub opening : Opening
  pub dealt_anywhere : DealtAnywhere
  -- shares of another day are refused with 15, where no α is 0; and why that is needed
  pub complete_set : CompleteSet
  pub another_day : AnotherDay
  pub day_instances : DayInstances
  -- how many pairs fell to each kind of vote
  pub pair_counts : PairCounts
  -- what is written as hand-in text is read back; how long it is; why the premises are needed
  pub reads_back : ReadsBack
  pub at_most : AtMost
  pub always_fits : AlwaysFits
  pub hand_in_instances : HandInInstances
  -- the table of weights; words of all n members pass the look exactly if they lie on a polynomial of degree at most t, and all words do exactly if
  -- all n agree; why the premises are needed
  pub table_rule : TableRule
  pub quick_look : QuickLook
  pub all_agree : AllAgree
  pub look_instances : LookInstances
  -- what t members hold, they hold of any other secret of equal length with other random words; at any points distinct and not 0 modulo p; why exactly t
  -- members, and why no point is 0
  pub secrecy : Secrecy
  pub perfect_secrecy : PerfectSecrecy
  pub secrecy_anywhere : SecrecyAnywhere
  pub secrecy_instances : SecrecyInstances
  -- what documents 01 and 02 say of their rules
  pub rules : Rules
  -- C1 to C14, and the corners
  pub examples : Examples
  pub corners : Corners
