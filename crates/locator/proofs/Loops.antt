-- The loops that write a polynomial in place, from the front: what is done, and then what is still to come of the rest, is the whole.
-- Assumes nothing.
use Rattle.std.proofs.Common.{◌≡◌, ℕ, ◌+◌, ◌≤◌, ◌<◌, List, ◌∷◌, ◌++◌, length, take, drop, sym, ap, ap₂, ◌∙◌, arith}
use Rattle.std.proofs.Math.ListN.{set, get_or}
use mathlib.Core.List.{append-nil}
use lib.ListN.{drop_of_length-le}
use lib.Seq.{take_all}
use Rattle.lists.proofs.InPlace.{done_set, left-set, left-cons}
use Rattle.field.specs.Field.{sum, difference, product}
use Rattle.locator.specs.Internal.Pairs.{raised, mixed}

pub raised_next : (x carry j w minus old : ℕ) (whole f : List ℕ) → j < length f → minus ≡ difference 0 x → old ≡ get_or f j 0 → w ≡ sum carry (product minus old)
    → take j f ++ raised x carry (drop j f) ≡ whole → take (j + 1) (set f j w) ++ raised x old (drop (j + 1) (set f j w)) ≡ whole
unfolding raised
raised_next x carry j w minus old whole f h em eo ew t =
    done_set f j w h (raised x old (drop (j + 1) (set f j w)))
    ∙ ap₂ (λ (a : ℕ) (l : List ℕ). take j f ++ a ∷ raised x old l) (ew ∙ ap (λ (m : ℕ). sum carry (product m old)) em) (left-set f j w h (j + 1) (omega arith))
    ∙ ap (λ (a : ℕ). take j f ++ sum carry (product (difference 0 x) a) ∷ raised x a (drop (j + 1) f)) eo
    ∙ ap (λ (l : List ℕ). take j f ++ raised x carry l) (sym (left-cons f j 0 h))
    ∙ t

pub raised_last : (x carry j : ℕ) (whole f : List ℕ) → length f ≤ j → take j f ++ raised x carry (drop j f) ≡ whole → f ≡ whole
unfolding raised
raised_last x carry j whole f h t = sym (ap₂ (λ (a l : List ℕ). a ++ raised x carry l) (take_all j f h) (drop_of_length-le f h) ∙ append-nil f) ∙ t

pub mixed_next : (u v j w m : ℕ) (whole f g : List ℕ) → j < length f → j < length g → m ≡ product u (get_or f j 0) → w ≡ sum m (product v (get_or g j 0))
    → take j f ++ mixed u (drop j f) v (drop j g) ≡ whole → take (j + 1) (set f j w) ++ mixed u (drop (j + 1) (set f j w)) v (drop (j + 1) g) ≡ whole
unfolding mixed
mixed_next u v j w m whole f g h hg em ew t =
    done_set f j w h (mixed u (drop (j + 1) (set f j w)) v (drop (j + 1) g))
    ∙ ap₂ (λ (a : ℕ) (l : List ℕ). take j f ++ a ∷ mixed u l v (drop (j + 1) g))
    (ew ∙ ap (λ (a : ℕ). sum a (product v (get_or g j 0))) em) (left-set f j w h (j + 1) (omega arith))
    ∙ ap₂ (λ (a b : List ℕ). take j f ++ mixed u a v b) (sym (left-cons f j 0 h)) (sym (left-cons g j 0 hg))
    ∙ t

pub mixed_last : (u v j : ℕ) (whole f g : List ℕ) → length f ≤ j → take j f ++ mixed u (drop j f) v (drop j g) ≡ whole → f ≡ whole
unfolding mixed
mixed_last u v j whole f g h t = sym (ap₂ (λ (a l : List ℕ). a ++ mixed u l v (drop j g)) (take_all j f h) (drop_of_length-le f h) ∙ append-nil f) ∙ t
