-- Instances of demands 2 and 3: dealings and hand-ins that meet all premises, and what opening answers. Proved in proofs/Instances.antt.
-- They are dealt and opened for day 1. All keys are 0, so every altered share survives, and no vote is mismatched.
use Rattle.std.specs.Prelude.{ℕ, suc, ◌*◌, ◌≤◌, ◌<◌, ◌≡◌, true, List, [], ◌∷◌, ◌++◌, map, length, replicate}
use Rattle.lists.specs.Tabulate.{concat}
use Rattle.members.specs.Members.{size, has, card}
use Rattle.decoding.specs.Decoding.{surplus}
use Rattle.reconstruction.specs.Reconstruction.{Opened, unopened, reconstruct}
use Rattle.claims.specs.Demands.{Dealing, HandedIn, AsDealt, altered, none_mismatched}

-- every premise of demand 3, the answer, how many survivors have altered share words, and the surplus; where the honest members are all that
-- are present, every premise of demand 2 too
pub record Instance (t : ℕ) (secret random dealt words : List ℕ) (present quorum honest : ℕ) (answer : Opened) (changed extra : ℕ) : Type 0 where
  pub dealing : Dealing t 1 secret random dealt
  pub handed : HandedIn t (length secret) present quorum words
  pub many : suc t ≤ card (size t) honest
  pub as_dealt : (i : ℕ) → i < size t → has honest i ≡ true → AsDealt t (length secret) present dealt words i
  pub opens : reconstruct t (length secret) 1 present quorum words ≡ record { opened = answer; pairs = none_mismatched (size t) (card (size t) present) }
  pub alterations : card (size t) (altered t (length secret) dealt words answer.survivors) ≡ changed
  pub surplus_is : surplus t (card (size t) answer.survivors) ≡ extra

-- shares of one word each, with tags and keys 0
abbrev pub shares : ℕ → List ℕ → List ℕ
shares t values = concat (map (λ v. v ∷ replicate (3 * size t) 0) values)

-- the random words: coefficients, then keys 0
abbrev pub random : ℕ → List ℕ → List ℕ
random t coefficients = coefficients ++ replicate (2 * (size t * size t)) 0

-- t = 2 and the polynomial 100 + 7x + 3x²: its values, and what is handed in for them
abbrev pub five_values : List ℕ
five_values = 110 ∷ 126 ∷ 148 ∷ 176 ∷ 210 ∷ []

abbrev pub FiveOf : List ℕ → ℕ → ℕ → ℕ → Opened → ℕ → ℕ → Type 0
FiveOf values present quorum honest answer changed extra =
    Instance 2 (100 ∷ []) (random 2 (7 ∷ 3 ∷ [])) (shares 2 five_values) (shares 2 values) present quorum honest answer changed extra

-- all five present, with quorum 0
abbrev pub Five : List ℕ → ℕ → Opened → ℕ → Type 0
Five values honest answer changed = FiveOf values 31 0 honest answer changed 2

-- all that are present are as dealt
abbrev pub Unaltered : ℕ → ℕ → ℕ → Type 0
Unaltered present quorum extra =
    FiveOf five_values present quorum present (record { number = 0; survivors = present; agreeing = present; secret = 100 ∷ [] }) 0 extra

-- t = 3 and the polynomial 250 + x + 2x² + 3x³, with the values 256, 284, 352, 478, 680, 976, 1384
abbrev pub Seven : List ℕ → ℕ → Opened → ℕ → Type 0
Seven values honest answer changed =
    Instance 3 (250 ∷ []) (random 3 (1 ∷ 2 ∷ 3 ∷ [])) (shares 3 (256 ∷ 284 ∷ 352 ∷ 478 ∷ 680 ∷ 976 ∷ 1384 ∷ [])) (shares 3 values) 127 0 honest answer changed 3

pub record Instances : Type 0 where
  -- quorum 0 is met by t + 2 members, and quorum t + 1 by t + 1
  pub by_default : Unaltered 15 0 1
  pub no_spare : Unaltered 7 3 0
  -- t + 1 do not meet quorum 0: that the quorum is met is needed, also where every share is as dealt
  pub unmet : reconstruct 2 1 1 7 0 (shares 2 five_values) ≡ record { opened = unopened 1 0 14; pairs = none_mismatched 5 3 }
  -- quorum t + 1, and a survivor altered beside t + 1 as dealt
  pub altered_by_quorum : FiveOf (110 ∷ 126 ∷ 148 ∷ 0 ∷ 210 ∷ []) 15 3 7 (unopened 1 15 16) 1 1
  -- an altered survivor, at most half the surplus: the dealt secret
  pub altered_survivor : Five (110 ∷ 126 ∷ 148 ∷ 0 ∷ 210 ∷ []) 23 (record { number = 0; survivors = 31; agreeing = 23; secret = 100 ∷ [] }) 1
  -- two of them: 16
  pub refused : Five (110 ∷ 126 ∷ 148 ∷ 0 ∷ 1 ∷ []) 7 (unopened 1 31 16) 2
  -- two that moved onto another polynomial through members 1 and 2: another secret
  pub another_secret : Five (110 ∷ 126 ∷ 148 ∷ 65412 ∷ 65161 ∷ []) 7 (record { number = 0; survivors = 31; agreeing = 27; secret = 5 ∷ [] }) 2
  -- an odd surplus: one alteration of three is within half, two are not
  pub odd_surplus : Seven (256 ∷ 284 ∷ 352 ∷ 478 ∷ 680 ∷ 9 ∷ 1384 ∷ []) 95 (record { number = 0; survivors = 127; agreeing = 95; secret = 250 ∷ [] }) 1
  pub odd_refused : Seven (256 ∷ 284 ∷ 4 ∷ 478 ∷ 680 ∷ 9 ∷ 1384 ∷ []) 91 (unopened 1 127 16) 2
