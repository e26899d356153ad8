-- A list whose elements from one place up to another are changed, as a loop does it in place.
use Rattle.std.proofs.Common.{◌≡◌, ◌≤◌, ◌<◌, ◌+◌, ℕ, zero, suc, List, [], ◌∷◌, ◌++◌, map, length, take, drop, get_or, refl, sym, ap, ◌∙◌, add-one, arith}
use Rattle.std.specs.Prelude.{slice_set}

abbrev pub mapped : {X : Type 0} → (X → X) → (from to : ℕ) → List X → List X
mapped f from to [] = []
mapped f from zero (x ∷ xs) = x ∷ xs
mapped f zero (suc to) (x ∷ xs) = f x ∷ mapped f zero to xs
mapped f (suc from) (suc to) (x ∷ xs) = x ∷ mapped f from to xs

pub mapped_none : {X : Type 0} (f : X → X) (from to : ℕ) (xs : List X) → to ≤ from → mapped f from to xs ≡ xs
mapped_none f from to [] h = refl
mapped_none f from zero (x ∷ xs) h = refl
mapped_none f zero (suc to) (x ∷ xs) h = absurd (omega arith)
mapped_none f (suc from) (suc to) (x ∷ xs) h = ap (λ ys. x ∷ ys) (mapped_none f from to xs (omega arith))

mapped_suc : {X : Type 0} (f : X → X) (from i : ℕ) (xs : List X) (x d : X) → from ≤ i → i < length xs → x ≡ get_or (mapped f from i xs) i d →
    slice_set (mapped f from i xs) i (f x) ≡ mapped f from (suc i) xs
mapped_suc f from i [] x d h b e = absurd (omega arith)
mapped_suc f zero zero (z ∷ xs) x d h b e = λ j. f (e j) ∷ sym (mapped_none f 0 0 xs (omega arith)) j
mapped_suc f (suc from) zero (z ∷ xs) x d h b e = absurd (omega arith)
mapped_suc f zero (suc i) (z ∷ xs) x d h b e = ap (λ ys. f z ∷ ys) (mapped_suc f zero i xs x d (omega arith) (omega arith) e)
mapped_suc f (suc from) (suc i) (z ∷ xs) x d h b e = ap (λ ys. z ∷ ys) (mapped_suc f from i xs x d (omega arith) (omega arith) e)

-- the next element is changed too
pub mapped_more : {X : Type 0} (f : X → X) (from i : ℕ) (xs ys : List X) (x y d : X) → ys ≡ mapped f from i xs → from ≤ i → i < length xs →
    x ≡ get_or ys i d → y ≡ f x → slice_set ys i y ≡ mapped f from (i + 1) xs
mapped_more f from i xs ys x y d same h b e v =
    rw add-one ((λ j. slice_set (same j) i (v j)) ∙ mapped_suc f from i xs x d h b (e ∙ ap (λ zs. get_or zs i d) same))

pub mapped_all : {X : Type 0} (f : X → X) (from to : ℕ) (xs : List X) → length xs ≤ to → mapped f from to xs ≡ take from xs ++ map f (drop from xs)
mapped_all f zero to [] h = refl
mapped_all f (suc from) to [] h = refl
mapped_all f from zero (x ∷ xs) h = absurd (omega arith)
mapped_all f zero (suc to) (x ∷ xs) h = ap (λ ys. f x ∷ ys) (mapped_all f zero to xs (omega arith))
mapped_all f (suc from) (suc to) (x ∷ xs) h = ap (λ ys. x ∷ ys) (mapped_all f from to xs (omega arith))
