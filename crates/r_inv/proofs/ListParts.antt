-- Lists: the element of an index with those after it, and the last part.
use Rattle.std.proofs.Common.{◌≡◌, ◌<◌, ℕ, zero, suc, Option, None, Some, List, [], ◌∷◌, drop, length, refl, arith}
use Rattle.std.specs.Prelude.{slice_get}

pub record At {X : Type 0} (k : ℕ) (xs : List X) : Type 0 where
  pub element : X
  pub there : slice_get xs k ≡ Some element
  pub rest : drop k xs ≡ element ∷ drop (suc k) xs

pub at_index : {X : Type 0} (k : ℕ) (xs : List X) → k < length xs → At k xs
at_index k [] h = absurd (omega (arith, h))
at_index zero (x ∷ xs) h = record { element = x; there = refl; rest = refl }
at_index (suc k) (x ∷ xs) h = let a = at_index k xs (omega (arith, h)) in record { element = a.element; there = a.there; rest = a.rest }

pub none_after : {X : Type 0} (k : ℕ) (xs : List X) → length xs ≡ k → drop k xs ≡ []
none_after zero [] h = refl
none_after (suc k) [] h = refl
none_after zero (x ∷ xs) h = absurd (omega (arith, h))
none_after (suc k) (x ∷ xs) h = none_after k xs (omega (arith, h))

pub within_get : {X : Type 0} (k : ℕ) (xs : List X) (x : X) → slice_get xs k ≡ Some x → k < length xs
within_get k [] x h = absurd cc
within_get zero (y ∷ xs) x h = omega arith
within_get (suc k) (y ∷ xs) x h = omega (arith, within_get k xs x h)

-- what holds of each element that is there
abbrev pub AllSome : {X : Type 0} → (X → Type 0) → List (Option X) → Type 0
AllSome P [] = Unit {0}
AllSome P (None ∷ xs) = AllSome P xs
AllSome P (Some x ∷ xs) = P x × AllSome P xs

pub all_some : {X : Type 0} (P : X → Type 0) (xs : List (Option X)) → ((k : ℕ) (x : X) → slice_get xs k ≡ Some (Some x) → P x) → AllSome P xs
all_some P [] h = tt
all_some P (None ∷ xs) h = all_some P xs (λ k x e. h (suc k) x e)
all_some P (Some y ∷ xs) h = (h 0 y refl, all_some P xs (λ k x e. h (suc k) x e))
