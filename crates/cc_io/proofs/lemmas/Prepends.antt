-- Bytes before what is left of a source.
use Rattle.std.proofs.Common.{◌≡◌, ◌≤◌, ℕ, ◌+◌, ◌-◌, List, [], ◌++◌, take, drop, Option, None, Some, refl, ap, sym, ◌∙◌, append_assoc, arith}
use Rattle.std.specs.List.{slice_range}
use Rattle.std.proofs.lemmas.List.{take-append-drop, drop-drop, drop-take}
use Rattle.cc_io.specs.Source.{prepend}

pub prepend-none : (left : Option (List ℕ)) → left ≡ prepend [] left
prepend-none None = refl
prepend-none (Some bytes) = refl

pub prepend-twice : (first second : List ℕ) (left : Option (List ℕ)) → prepend first (prepend second left) ≡ prepend (first ++ second) left
prepend-twice first second None = refl
prepend-twice first second (Some rest) = ap Some (sym (append_assoc first second rest))

-- a part from an offset on is its first n and what comes after them
part-first : (xs : List ℕ) (at end n : ℕ) → n ≤ end - at → slice_range xs at end ≡ take n (slice_range xs at end) ++ slice_range xs (at + n) end
part-first xs at end n within =
    sym (take-append-drop n (slice_range xs at end))
    ∙ ap (λ rest. take n (slice_range xs at end) ++ rest)
    (ap (λ k. drop n (take k (drop at xs))) (omega (arith, within)) ∙ drop-take n (end - at - n) (drop at xs)
    ∙ ap (λ ys. take (end - at - n) ys) (drop-drop n at xs) ∙ ap (λ k. take k (drop (at + n) xs)) (omega arith))

-- the first n of a part are taken from the front of it
pub prepend-part : (left : Option (List ℕ)) (xs : List ℕ) (at end n : ℕ) → n ≤ end - at
    → prepend (slice_range xs at end) left ≡ prepend (take n (slice_range xs at end)) (prepend (slice_range xs (at + n) end) left)
prepend-part left xs at end n within =
    ap (λ bytes. prepend bytes left) (part-first xs at end n within) ∙ sym (prepend-twice (take n (slice_range xs at end)) (slice_range xs (at + n) end) left)
