-- The elements of lists.
use Rattle.std.proofs.Common.{◌≡◌, ℕ, zero, suc, Bool, true, List, [], ◌∷◌, ◌++◌, slice_get, Some, ap, sym, ◌∙◌}
use Rattle.std.proofs.lemmas.Bool.{and_parts}
use Rattle.std.proofs.lemmas.Option.{same_Some}
use Rattle.g_graph.specs.WellFormed.{all_of}

-- a test that all pass, one passes
pub get-all : {X : Type 0} (test : X → Bool) (xs : List X) (i : ℕ) (x : X) → all_of test xs ≡ true → slice_get xs i ≡ Some x → test x ≡ true
get-all test [] i x all there = absurd cc
get-all test (y ∷ xs) zero x all there = ap test (sym (same_Some y x there)) ∙ (and_parts (test y) (all_of test xs) all).0
get-all test (y ∷ xs) (suc i) x all there = get-all test xs i x (and_parts (test y) (all_of test xs) all).1 there

pub get-added : {X : Type 0} (xs ys : List X) (i : ℕ) (x : X) → slice_get xs i ≡ Some x → slice_get (xs ++ ys) i ≡ Some x
get-added [] ys i x there = absurd cc
get-added (y ∷ xs) ys zero x there = there
get-added (y ∷ xs) ys (suc i) x there = get-added xs ys i x there
