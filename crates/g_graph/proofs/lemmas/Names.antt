-- Names that are the same bytes are one name.
use Rattle.std.proofs.Common.{◌≡◌, ℕ, Bool, true, false, List, [], ◌∷◌, refl, ap, ◌∙◌, arith}
use Rattle.std.specs.Prelude.{◌==◌, if◌then◌else◌}
use Rattle.std.proofs.lemmas.Bool.Decides.{nat_tests}
use Rattle.g_graph.specs.Program.{same_bytes}

pub bytes_same : (xs : List ℕ) → same_bytes xs xs ≡ true
bytes_same [] = refl
bytes_same (x ∷ xs) = ap (λ t. if t then same_bytes xs xs else false) equal ∙ bytes_same xs
  where
    equal : (x == x) ≡ true
    equal = grind (arith, nat_tests)

pub bytes_equal : (xs ys : List ℕ) → same_bytes xs ys ≡ true → xs ≡ ys
bytes_equal [] [] e = refl
bytes_equal [] (y ∷ ys) e = absurd (cc)
bytes_equal (x ∷ xs) [] e = absurd (cc)
bytes_equal (x ∷ xs) (y ∷ ys) e = by_test (x == y) refl e (λ q. bytes_equal xs ys q)
  where
    by_test : (t : Bool) → (x == y) ≡ t → (if t then same_bytes xs ys else false) ≡ true → (same_bytes xs ys ≡ true → xs ≡ ys) → x ∷ xs ≡ y ∷ ys
    by_test true q r s = let same : x ≡ y = grind (arith, nat_tests, q) in λ i. same i ∷ s r i
    by_test false q r s = absurd (cc)
