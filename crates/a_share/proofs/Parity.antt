-- Whether an odd number of elements passes a test.
use Rattle.std.proofs.Common.{◌≡◌, ℕ, suc, Bool, true, false, not, ◌&&◌, List, [], ◌∷◌, ◌++◌, length, refl, sym, ap, ◌∙◌, arith}
use Rattle.std.specs.Prelude.{◌==◌, ◌%◌}
use Rattle.std.proofs.lemmas.Bool.Decides.{nat_tests}
use Rattle.a_share.specs.Bounds.{differ, odd_of}

pub differ_assoc : (a b c : Bool) → differ (differ a b) c ≡ differ a (differ b c)
differ_assoc true true true = refl
differ_assoc true true false = refl
differ_assoc true false true = refl
differ_assoc true false false = refl
differ_assoc false b c = refl

pub differ_false : (a : Bool) → differ a false ≡ a
differ_false true = refl
differ_false false = refl

pub differ_same : (a : Bool) → differ a a ≡ false
differ_same true = refl
differ_same false = refl

-- what differs twice is as it was
pub differ_twice : (a b : Bool) → differ (differ a b) b ≡ a
differ_twice true true = refl
differ_twice true false = refl
differ_twice false true = refl
differ_twice false false = refl

pub and_differ : (t a b : Bool) → differ (t && a) (t && b) ≡ (t && differ a b)
and_differ true a b = refl
and_differ false a b = refl

pub odd_append : (test : ℕ → Bool) (xs ys : List ℕ) → odd_of test (xs ++ ys) ≡ differ (odd_of test xs) (odd_of test ys)
odd_append test [] ys = refl
odd_append test (x ∷ xs) ys = ap (differ (test x)) (odd_append test xs ys) ∙ sym (differ_assoc (test x) (odd_of test xs) (odd_of test ys))

pub odd_push : (test : ℕ → Bool) (xs : List ℕ) (y : ℕ) → odd_of test (xs ++ y ∷ []) ≡ differ (odd_of test xs) (test y)
odd_push test xs y = odd_append test xs (y ∷ []) ∙ ap (differ (odd_of test xs)) (differ_false (test y))

odd_suc : (n : ℕ) → ((suc n % 2) == 1) ≡ not ((n % 2) == 1)
odd_suc n = grind (arith, nat_tests)

-- all of them pass
pub odd_length : (test : ℕ → Bool) (xs : List ℕ) → ((x : ℕ) → test x ≡ true) → odd_of test xs ≡ ((length xs % 2) == 1)
odd_length test [] h = refl
odd_length test (x ∷ xs) h = rw (h x) (ap not (odd_length test xs h) ∙ sym (odd_suc (length xs)))
