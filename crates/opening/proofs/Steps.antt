-- Laws of one read, and of the bytes read so far.
-- Assumes nothing.
use Rattle.std.proofs.Common.{◌≡◌, sym, ap, subst, ◌∙◌, ℕ, min, ◌+◌, ◌-◌, ◌≤◌, List, ◌++◌, length, take, slice_range, arith, le_refl, drop_at, length-take-le}
use Rattle.std.proofs.lemmas.Slice.{take-put_mid_below}
use Rattle.std.specs.Prelude.{Option, Result, Ok, Err}
use Rattle.std.specs.Io.{ReadsAtMost}
use Rattle.std.specs.Io.KnownBytes.{Consumes, ReadConsumes}
use Rattle.std.proofs.KnownBytes.{Consumes-trans}
use Rattle.std.specs.declared.io.Error.{Error}
use borrow.Rule.Slice.PartMut.{put_mid, post_of}
use lib.Seq.{take-add, take-append-le}
use Rattle.opening.specs.Input.{step_of}

-- the bytes that a read counts have room, and they are what the reader gave
pub read_fits : (known left : Option (List ℕ)) (part : List ℕ) (room count : ℕ) → room ≡ length part → (r : Result ℕ Error) → step_of r room ≡ Ok count
    → ReadsAtMost r part → ReadConsumes known left r part → (count ≤ length part) × Consumes known left (take count part)
read_fits known left part room count same (Err e) h fits read = absurd cc
read_fits known left part room count same (Ok k) h fits read =
    let m : min k room ≡ count = cc in
    let all : count ≡ k = omega (arith, m, same, fits.0) in
    (omega (arith, fits.0), subst (λ n. Consumes known left (take n part)) (sym all) read.0)

take_split : (a b : ℕ) (old new : List ℕ) → a ≤ b → take a new ≡ take a old → take a old ++ slice_range new a b ≡ take b new
take_split a b old new h front =
    let same : a + (b - a) ≡ b = omega arith in
    ap (λ l. l ++ slice_range new a b) (sym front) ∙ sym (take-add a (b - a) new) ∙ ap (λ n. take n new) same

slice_range-put_mid : (a k n : ℕ) (xs ys : List ℕ) → a ≤ length xs → n ≤ length ys → slice_range (put_mid a k xs ys) a (a + n) ≡ take n ys
slice_range-put_mid a k n xs ys within fits =
    let same : (a + n) - a ≡ n = omega arith in
    let after = post_of a k xs in
    ap (take ((a + n) - a)) (drop_at (take a xs) (ys ++ after) a (length-take-le a xs within)) ∙ ap (λ m. take m (ys ++ after)) same ∙ take-append-le n ys after fits

-- bytes that were read into the part from n on follow those before
pub follows : (a b c : Option (List ℕ)) (text part : List ℕ) (n k count : ℕ) → n ≤ length text → count ≤ length part
    → Consumes a b (take n text) → Consumes b c (take count part) → Consumes a c (take (n + count) (put_mid n k text part))
follows a b c text part n k count within fits before read =
    let joined = take_split n (n + count) text (put_mid n k text part) (omega arith) (take-put_mid_below _ _ _ _ _ (le_refl _) within) in
    subst (Consumes _ _) (ap (λ l. take n text ++ l) (sym (slice_range-put_mid n k count text part within fits)) ∙ joined) (Consumes-trans _ _ _ _ _ before read)
