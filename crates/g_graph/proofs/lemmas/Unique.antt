-- Numbers that are unique: each stands once.
use Rattle.std.proofs.Common.{◌≡◌, ◌≤◌, ◌+◌, ℕ, zero, suc, List, [], ◌∷◌, ◌++◌, refl, sym, ap, ◌∙◌, Bool, true, false, ◌&&◌, ◌||◌, arith}
use Rattle.std.proofs.Math.Dec.{eqb-suc-zero, eqb-suc-suc}
use Rattle.std.specs.Prelude.{◌==◌, nat_lt, not, count_by, if◌then◌else◌}
use Rattle.std.proofs.lemmas.List.Sums.{sum_by-cons, sum_by-append}
use Rattle.std.proofs.lemmas.Bool.Decides.{nat_tests}
use Rattle.std.proofs.Math.Bool.{and_assoc}
use Rattle.std.proofs.lemmas.Bool.{and_parts}
use Rattle.g_graph.specs.Count.{saturated}
use Rattle.g_graph.specs.WellFormed.{all_of, some_of, distinct}

pub all_of_append : {X : Type 0} (test : X → Bool) (xs ys : List X) → all_of test (xs ++ ys) ≡ (all_of test xs && all_of test ys)
all_of_append test [] ys = refl
all_of_append test (x ∷ xs) ys = ap (λ b. test x && b) (all_of_append test xs ys) ∙ sym (and_assoc (test x) (all_of test xs) (all_of test ys))

abbrev pub times : ℕ → List ℕ → ℕ
times n ns = count_by (λ m. m == n) ns

pub times_append : (n : ℕ) (xs ys : List ℕ) → count_by (λ m. m == n) (xs ++ ys) ≡ count_by (λ m. m == n) xs + count_by (λ m. m == n) ys
times_append n xs ys = sum_by-append (λ m. if m == n then 1 else 0) xs ys

pub times_cons : (n x : ℕ) (xs : List ℕ) → count_by (λ m. m == n) (x ∷ xs) ≡ (if x == n then 1 else 0) + count_by (λ m. m == n) xs
times_cons n x xs = sum_by-cons (λ m. if m == n then 1 else 0) x xs

pub same_number : (j k : ℕ) → (j == k) ≡ true → j ≡ k
same_number j k e = grind (arith, nat_tests)

pub equal_back : (n m : ℕ) → (n == m) ≡ (m == n)
equal_back n m = grind (arith, nat_tests)

some_of_times : (n : ℕ) (xs : List ℕ) → some_of (λ m. n == m) xs ≡ nat_lt 0 (times n xs)
some_of_times n [] = refl
some_of_times n (x ∷ xs) = ap (λ t. t || some_of (λ m. n == m) xs) (equal_back n x) ∙ by_test (x == n) (some_of_times n xs) ∙ ap (nat_lt 0) (sym (times_cons n x xs))
  where
    by_test : (t : Bool) → some_of (λ m. n == m) xs ≡ nat_lt 0 (times n xs) → (t || some_of (λ m. n == m) xs) ≡ nat_lt 0 ((if t then 1 else 0) + times n xs)
    by_test true h = grind (arith, nat_tests)
    by_test false h = grind (arith, nat_tests)

all_of_same : {X : Type 0} (p q : X → Bool) → ((x : X) → p x ≡ q x) → (xs : List X) → all_of p xs ≡ all_of q xs
all_of_same p q e [] = refl
all_of_same p q e (x ∷ xs) = λ i. e x i && all_of_same p q e xs i

all_of_both : {X : Type 0} (p q : X → Bool) (xs : List X) → (all_of p xs && all_of q xs) ≡ all_of (λ x. p x && q x) xs
all_of_both p q [] = refl
all_of_both p q (x ∷ xs) = swap (p x) (q x) (all_of p xs) (all_of q xs) ∙ ap (λ b. (p x && q x) && b) (all_of_both p q xs)
  where
    swap : (a b c d : Bool) → ((a && c) && (b && d)) ≡ ((a && b) && (c && d))
    swap true true c d = refl
    swap true false true d = refl
    swap true false false d = refl
    swap false b c d = refl

-- a number that is not among these changes no count of them
kept : (n : ℕ) (ns ms : List ℕ) → times n ms ≡ 0 → all_of (λ m. times m (n ∷ ns) == 1) ms ≡ all_of (λ m. times m ns == 1) ms
kept n ns [] none = refl
kept n ns (m ∷ ms) none = by_test (m == n) (times_cons n m ms) (times_cons m n ns) (equal_back n m) (kept n ns ms)
  where
    by_test : (t : Bool) → times n (m ∷ ms) ≡ (if t then 1 else 0) + times n ms → times m (n ∷ ns) ≡ (if n == m then 1 else 0) + times m ns → (n == m) ≡ t →
        (times n ms ≡ 0 → all_of (λ k. times k (n ∷ ns) == 1) ms ≡ all_of (λ k. times k ns == 1) ms) →
        all_of (λ k. times k (n ∷ ns) == 1) (m ∷ ms) ≡ all_of (λ k. times k ns == 1) (m ∷ ms)
    by_test true e f q h = absurd (omega arith)
    by_test false e f q h =
        let rest = h (omega arith) in
        let same : times m (n ∷ ns) ≡ times m ns = f ∙ ap (λ t. (if t then 1 else 0) + times m ns) q ∙ omega arith in
        λ i. (same i == 1) && rest i

once : (ns : List ℕ) → distinct ns ≡ all_of (λ n. times n ns == 1) ns
once [] = refl
once (n ∷ ns) = ap (λ t. not t && distinct ns) (some_of_times n ns) ∙ by_count (times n ns) refl (once ns) ∙ ap (λ k. (k == 1) && all_of (λ m. times m (n ∷ ns) == 1) ns) (sym more)
  where
    more : times n (n ∷ ns) ≡ suc (times n ns)
    more = times_cons n n ns ∙ grind (arith, nat_tests)

    by_count : (c : ℕ) → times n ns ≡ c → distinct ns ≡ all_of (λ m. times m ns == 1) ns →
        (not (nat_lt 0 c) && distinct ns) ≡ ((suc c == 1) && all_of (λ m. times m (n ∷ ns) == 1) ns)
    by_count zero e h = h ∙ sym (kept n ns ns e)
    by_count (suc c) e h = ap (λ t. not t && distinct ns) (some c) ∙ ap (λ t. t && all_of (λ m. times m (n ∷ ns) == 1) ns) (sym (eqb-suc-suc (suc c) 0 ∙ eqb-suc-zero c))
      where
        some : (d : ℕ) → nat_lt 0 (suc d) ≡ true
        some d = grind (arith, nat_tests)

saturated_once : (c : ℕ) → (c == 1) ≡ (saturated c == 1)
saturated_once c = grind (arith, nat_tests)

pub each_once : (next : ℕ) (ns : List ℕ) → (distinct ns && all_of (λ n. nat_lt n next) ns) ≡ all_of (λ n. (saturated (count_by (λ m. m == n) ns) == 1) && nat_lt n next) ns
each_once next ns =
    ap (λ b. b && all_of (λ n. nat_lt n next) ns) (once ns ∙ all_of_same (λ n. times n ns == 1) (λ n. saturated (times n ns) == 1) (λ n. saturated_once (times n ns)) ns)
    ∙ all_of_both (λ n. saturated (times n ns) == 1) (λ n. nat_lt n next) ns

none_of_not : (n : ℕ) → not (nat_lt 0 n) ≡ true → n ≡ 0
none_of_not n e = grind (arith, nat_tests)

not_of_none : (n : ℕ) → n ≡ 0 → not (nat_lt 0 n) ≡ true
not_of_none n e = grind (arith, nat_tests)

-- numbers are unique exactly where each stands at most once, which sums of counts can tell
pub counts_of_distinct : (ns : List ℕ) → distinct ns ≡ true → (n : ℕ) → count_by (λ m. m == n) ns ≤ 1
counts_of_distinct [] d n = omega arith
counts_of_distinct (x ∷ ns) d n =
    let none : times x ns ≡ 0 = none_of_not (times x ns) (ap not (sym (some_of_times x ns)) ∙ (and_parts (not (some_of (λ m. x == m) ns)) (distinct ns) d).0) in
    by_test (x == n) refl (times_cons n x ns) none (counts_of_distinct ns (and_parts (not (some_of (λ m. x == m) ns)) (distinct ns) d).1 n)
  where
    same : (x == n) ≡ true → x ≡ n
    same q = grind (arith, nat_tests)

    by_test : (t : Bool) → (x == n) ≡ t → times n (x ∷ ns) ≡ (if x == n then 1 else 0) + times n ns → times x ns ≡ 0 → times n ns ≤ 1 → times n (x ∷ ns) ≤ 1
    by_test true q e z h = omega (arith, e ∙ ap (λ t. (if t then 1 else 0) + times n ns) q, z, ap (λ k. times k ns) (same q))
    by_test false q e z h = omega (arith, e ∙ ap (λ t. (if t then 1 else 0) + times n ns) q, h)

pub distinct_of_counts : (ns : List ℕ) → ((n : ℕ) → count_by (λ m. m == n) ns ≤ 1) → distinct ns ≡ true
distinct_of_counts [] h = refl
distinct_of_counts (x ∷ ns) h =
    let own : times x (x ∷ ns) ≡ 1 + times x ns = times_cons x x ns ∙ ap (λ t. (if t then 1 else 0) + times x ns) (itself x) in
    let none : times x ns ≡ 0 = omega (arith, own, h x) in
    let rest = distinct_of_counts ns (λ n. omega (arith, times_cons n x ns, h n)) in
    λ i. (ap not (some_of_times x ns) ∙ not_of_none (times x ns) none) i && rest i
  where
    itself : (n : ℕ) → (n == n) ≡ true
    itself n = grind (arith, nat_tests)

pub all_of_holds : {X : Type 0} (p q : X → Bool) → ((x : X) → p x ≡ true → q x ≡ true) → (xs : List X) → all_of p xs ≡ true → all_of q xs ≡ true
all_of_holds p q e [] h = refl
all_of_holds p q e (x ∷ xs) h = λ i. e x (and_parts (p x) (all_of p xs) h).0 i && all_of_holds p q e xs (and_parts (p x) (all_of p xs) h).1 i
