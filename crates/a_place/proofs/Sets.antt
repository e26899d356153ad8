-- A set of numbers to which a list is added.
use Rattle.std.proofs.Common.{◌≡◌, ◌<◌, ℕ, ◌+◌, Bool, true, false, ◌||◌, cond, List, length, get_or, drop, refl, sym, ◌∙◌, ap, inl, inr, arith}
use Rattle.std.specs.Prelude.{◌==◌, nat_lt}
use Rattle.std.specs.BTreeMap.{is_at}
use Rattle.std.specs.Ordering.{nat_cmp}
use Rattle.std.proofs.lemmas.Bool.{cases_Bool}
use Rattle.std.proofs.lemmas.Bool.Decides.{nat_tests}
use Rattle.std.proofs.lemmas.List.{at_drop_more}
use Rattle.g_graph.specs.WellFormed.{some_of}

pub is_at_number : (x q : ℕ) → is_at (nat_cmp x) q ≡ (x == q)
is_at_number x q =
    elim (cases_Bool (nat_lt x q)) [
      | inl less ↦ let other : (x == q) ≡ false = grind (arith, nat_tests) in rw (less, other) refl
      | inr more ↦ elim (cases_Bool (x == q)) [ inl same ↦ rw (more, same) refl | inr other ↦ rw (more, other) refl ]
    ]

moved : (t rest f : Bool) → (rest || cond t true f) ≡ ((t || rest) || f)
moved true true f = refl
moved true false f = refl
moved false rest f = refl

pub one_more : (xs : List ℕ) (i q : ℕ) (f g w : Bool) → i < length xs → g ≡ cond (is_at (nat_cmp (get_or xs i 0)) q) true f
    → (some_of (λ p. p == q) (drop i xs) || f) ≡ w → (some_of (λ p. p == q) (drop (i + 1) xs) || g) ≡ w
one_more xs i q f g w h e inv =
    rw (e, is_at_number (get_or xs i 0) q)
    (moved (get_or xs i 0 == q) (some_of (λ p. p == q) (drop (i + 1) xs)) f
    ∙ sym (ap (λ b. b || f) (at_drop_more (some_of (λ p. p == q)) xs i 0 h)) ∙ inv)
