-- Two pairs of polynomials (N, E) are kept so that N(x) = y · E(x) at each member passed so far. A member at which a pair is off raises one pair by a
-- factor X − x and frees the other. No contract of a call of the documents cites this.
-- Assumes nothing.
use Rattle.std.specs.Prelude.{◌≡◌, ℕ, zero, suc, ◌+◌, Bool, cond, ◌&&◌, ◌||◌, not, List, [], ◌∷◌, leb, eqb, get_or, replicate}
use Rattle.field.specs.Field.{sum, difference, product}
use Rattle.polynomial.specs.Polynomial.{value}
use Rattle.members.specs.Members.{has}
use Rattle.locator.specs.declared.Pair.{Pair}

-- c + (X − x) · f without its last coefficient, which is 0 wherever this is used
unfoldable pub raised : ℕ → ℕ → List ℕ → List ℕ
raised x c [] = []
raised x c (a ∷ f) = sum c (product (difference 0 x) a) ∷ raised x a f

-- u · f + v · g
unfoldable pub mixed : ℕ → List ℕ → ℕ → List ℕ → List ℕ
mixed u [] v g = []
mixed u (a ∷ f) v [] = []
mixed u (a ∷ f) v (b ∷ g) = sum (product u a) (product v b) ∷ mixed u f v g

-- how far a pair is off at (x, y): N(x) − y · E(x)
unfoldable pub off_by : ℕ → ℕ → List ℕ → List ℕ → ℕ
off_by x y n e = difference (value n x) (product y (value e x))

-- the two pairs; a is the degree of n0, and b that of e1
pub record State : Type 0 where
  pub n0 : List ℕ
  pub e0 : List ℕ
  pub n1 : List ℕ
  pub e1 : List ℕ
  pub a : ℕ
  pub b : ℕ

unfoldable pub start : ℕ → State
start len = record { n0 = 1 ∷ replicate len 0; e0 = replicate (suc len) 0; n1 = replicate (suc len) 0; e1 = 1 ∷ replicate len 0; a = 0; b = 0 }

-- the first pair is raised at x, and the second freed of its d1 by d0 times itself less d1 times the first
unfoldable pub first_up : ℕ → ℕ → ℕ → State → State
first_up x d0 d1 s =
    record {
      n0 = raised x 0 s.n0;
      e0 = raised x 0 s.e0;
      n1 = mixed d0 s.n1 (difference 0 d1) s.n0;
      e1 = mixed d0 s.e1 (difference 0 d1) s.e0;
      a = suc s.a;
      b = s.b;
    }

-- the second pair is raised, and the first freed
unfoldable pub second_up : ℕ → ℕ → ℕ → State → State
second_up x d0 d1 s =
    record {
      n0 = mixed d1 s.n0 (difference 0 d0) s.n1;
      e0 = mixed d1 s.e0 (difference 0 d0) s.e1;
      n1 = raised x 0 s.n1;
      e1 = raised x 0 s.e1;
      a = s.a;
      b = suc s.b;
    }

-- the first pair is the one to raise
unfoldable pub first_turn : ℕ → ℕ → ℕ → ℕ → ℕ → Bool
first_turn t d0 d1 a b = not (eqb d0 0) && (eqb d1 0 || leb a (b + t))

unfoldable pub step_by : ℕ → ℕ → ℕ → ℕ → State → State
step_by t x d0 d1 s = cond (first_turn t d0 d1 s.a s.b) (first_up x d0 d1 s) (cond (eqb d1 0) s (second_up x d0 d1 s))

unfoldable pub stepped : ℕ → ℕ → ℕ → State → State
stepped t x y s = step_by t x (off_by x y s.n0 s.e0) (off_by x y s.n1 s.e1) s

-- the state after the first k members; y i is member i's value
unfoldable pub passed : List ℕ → ℕ → (ℕ → ℕ) → ℕ → ℕ → ℕ → State
passed xs t y set len zero = start len
passed xs t y set len (suc k) =
    cond (has set k) (stepped t (get_or xs k 0) (y k) (passed xs t y set len k)) (passed xs t y set len k)

-- the pairs p and q become p' and q': p is raised at x, and q freed
pub record Advanced (x dp dq : ℕ) (p q p' q' : Pair) : Type 0 where
  pub raised_n : p'.n ≡ raised x 0 p.n
  pub raised_e : p'.e ≡ raised x 0 p.e
  pub freed_n : q'.n ≡ mixed dp q.n (difference 0 dq) p.n
  pub freed_e : q'.e ≡ mixed dp q.e (difference 0 dq) p.e
  pub degree_up : p'.degree ≡ suc p.degree
  pub degree_kept : q'.degree ≡ q.degree

-- the two pairs, as the code keeps them
abbrev pub state_of : Pair → Pair → State
state_of p q = record { n0 = p.n; e0 = p.e; n1 = q.n; e1 = q.e; a = p.degree; b = q.degree }
