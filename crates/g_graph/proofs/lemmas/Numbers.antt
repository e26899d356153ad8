-- Unique numbers below a next one, and lists of numbers within others.
use Rattle.std.proofs.Common.{◌≡◌, ◌≤◌, ◌+◌, ℕ, List, [], ◌∷◌, ◌++◌, refl, sym, ap, ◌∙◌, Bool, true, false, ◌&&◌, arith}
use Rattle.std.specs.Prelude.{◌==◌, nat_lt, not, count_by, if◌then◌else◌}
use Rattle.std.proofs.lemmas.Bool.Decides.{nat_tests}
use Rattle.std.proofs.lemmas.Bool.{and_parts}
use Rattle.g_graph.specs.WellFormed.{all_of, some_of, distinct}
use Rattle.g_graph.proofs.lemmas.Unique.{all_of_append, times, times_append, times_cons, counts_of_distinct, distinct_of_counts}

-- unique numbers below the next
pub record Numbered (next : ℕ) (ns : List ℕ) : Type 0 where
  pub unique : distinct ns ≡ true
  pub below : all_of (λ n. nat_lt n next) ns ≡ true

pub numbered_left : (next : ℕ) (xs ys : List ℕ) → Numbered next (xs ++ ys) → Numbered next xs
numbered_left next xs ys e = record {
  unique = distinct_of_counts xs (λ n. omega (arith, counts_of_distinct (xs ++ ys) e.unique n, times_append n xs ys));
  below = (and_parts (all_of (λ n. nat_lt n next) xs) (all_of (λ n. nat_lt n next) ys) (sym (all_of_append (λ n. nat_lt n next) xs ys) ∙ e.below)).0;
}

pub numbered_right : (next : ℕ) (xs ys : List ℕ) → Numbered next (xs ++ ys) → Numbered next ys
numbered_right next xs ys e = record {
  unique = distinct_of_counts ys (λ n. omega (arith, counts_of_distinct (xs ++ ys) e.unique n, times_append n xs ys));
  below = (and_parts (all_of (λ n. nat_lt n next) xs) (all_of (λ n. nat_lt n next) ys) (sym (all_of_append (λ n. nat_lt n next) xs ys) ∙ e.below)).1;
}

pub numbered_rest : (next n : ℕ) (ns : List ℕ) → Numbered next (n ∷ ns) → Numbered next ns
numbered_rest next n ns e = record {
  unique = (and_parts (not (some_of (λ m. n == m) ns)) (distinct ns) e.unique).1;
  below = (and_parts (nat_lt n next) (all_of (λ m. nat_lt m next) ns) e.below).1;
}

test_of_times : (test : ℕ → Bool) (n : ℕ) (ns : List ℕ) → 1 ≤ times n ns → all_of test ns ≡ true → test n ≡ true
test_of_times test n [] h e = absurd (omega arith)
test_of_times test n (x ∷ ns) h e =
    by_test (x == n) refl (times_cons n x ns) (and_parts (test x) (all_of test ns) e).0 (λ k. test_of_times test n ns k (and_parts (test x) (all_of test ns) e).1)
  where
    same : (x == n) ≡ true → x ≡ n
    same q = grind (arith, nat_tests)

    by_test : (t : Bool) → (x == n) ≡ t → times n (x ∷ ns) ≡ (if x == n then 1 else 0) + times n ns → test x ≡ true → (1 ≤ times n ns → test n ≡ true) → test n ≡ true
    by_test true q c own rest = ap test (sym (same q)) ∙ own
    by_test false q c own rest = rest (omega (arith, h, c ∙ ap (λ t. (if t then 1 else 0) + times n ns) q))

all_of_times : (test : ℕ → Bool) (ns ms : List ℕ) → ((n : ℕ) → times n ms ≤ times n ns) → all_of test ns ≡ true → all_of test ms ≡ true
all_of_times test ns [] h e = refl
all_of_times test ns (m ∷ ms) h e =
    let own : times m (m ∷ ms) ≡ 1 + times m ms = times_cons m m ms ∙ ap (λ t. (if t then 1 else 0) + times m ms) (itself m) in
    λ i. test_of_times test m ns (omega (arith, own, h m)) e i && all_of_times test ns ms (λ n. omega (arith, times_cons n m ms, h n)) e i
  where
    itself : (n : ℕ) → (n == n) ≡ true
    itself n = grind (arith, nat_tests)

-- numbers that stand no more often than others are unique and below the next where those are
pub numbered_fewer : (next : ℕ) (ns ms : List ℕ) → ((n : ℕ) → count_by (λ m. m == n) ms ≤ count_by (λ m. m == n) ns) → Numbered next ns → Numbered next ms
numbered_fewer next ns ms h e = record {
  unique = distinct_of_counts ms (λ n. omega (arith, h n, counts_of_distinct ns e.unique n));
  below = all_of_times (λ n. nat_lt n next) ns ms h e.below;
}
