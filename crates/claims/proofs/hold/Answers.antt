-- Each claim has its proof.
-- Assumes nothing.
use Rattle.claims.proofs.Days.{complete_set, another_day, day_instances}
use Rattle.claims.proofs.Demand2.{demand2}
use Rattle.claims.proofs.Demand3.{demand3, dealt_anywhere}
use Rattle.claims.proofs.Examples.{examples, corners}
use Rattle.claims.proofs.HandIn.{reads_back, at_most, always_fits, hand_in_instances}
use Rattle.claims.proofs.Instances.{instances}
use Rattle.claims.proofs.Opening.{opening}
use Rattle.claims.proofs.Pairs.{pair_counts}
use Rattle.claims.proofs.QuickLook.{table_rule, quick_look, all_agree, look_instances}
use Rattle.claims.proofs.Rules.{rules}
use Rattle.claims.proofs.Secrecy.{secrecy, perfect_secrecy, secrecy_anywhere, secrecy_instances}
use Rattle.claims.proofs.hold.Goals as goal

pub returns : goal.returns
returns c =
    record {
      demand2 = demand2;
      demand3 = demand3;
      instances = instances;
      opening = opening;
      dealt_anywhere = dealt_anywhere;
      complete_set = complete_set;
      another_day = another_day;
      day_instances = day_instances;
      pair_counts = pair_counts;
      reads_back = reads_back;
      at_most = at_most;
      always_fits = always_fits;
      hand_in_instances = hand_in_instances;
      table_rule = table_rule;
      quick_look = quick_look;
      all_agree = all_agree;
      look_instances = look_instances;
      secrecy = secrecy;
      perfect_secrecy = perfect_secrecy;
      secrecy_anywhere = secrecy_anywhere;
      secrecy_instances = secrecy_instances;
      rules = rules;
      examples = examples;
      corners = corners;
    }
