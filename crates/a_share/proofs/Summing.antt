-- The sum of a range of a tree's last entries, by sums.
use Rattle.std.proofs.Common.{◌≡◌, ◌+◌, ◌-◌, ◌*◌, ◌/◌, ◌%◌, ◌<◌, ◌≤◌, ℕ, zero, suc, List, get_or, refl, sym, ap, ◌∙◌, replicate, inl, inr, arith}
use Rattle.std.proofs.lemmas.Bool.{cases_lt}
use Rattle.a_share.specs.Sums.{run, IsTree}
use Rattle.a_share.proofs.Adding.{run_last, run_half, run_shift}

-- What was summed and the entries that are left are the whole.
pub record IsSumming (xs : List ℕ) (size all sum left right : ℕ) : Type 0 where
  pub whole : sum + run (λ k. get_or xs k 0) left (right - left) ≡ all
  pub order : left ≤ right
  pub inside : right ≤ 2 * size
  pub positive : left < right → 1 ≤ left

pub sum_begun : (xs : List ℕ) (size from to : ℕ) → from ≤ to → to ≤ size
    → IsSumming xs size (run (λ i. get_or xs (size + i) 0) from (to - from)) 0 (size + from) (size + to)
sum_begun xs size from to a b = record {
  whole =
      let e : (size + to) - (size + from) ≡ to - from = omega arith in
      let T : ℕ → ℕ = λ k. get_or xs k 0 in
      let same : run T (size + from) ((size + to) - (size + from)) ≡ run (λ i. get_or xs (size + i) 0) from (to - from) =
      ap (run T (size + from)) e ∙ sym (run_shift T size from (to - from)) in
      omega arith;
  order = omega arith;
  inside = omega arith;
  positive = λ h. omega arith;
}

pub sum_left : (xs : List ℕ) (size all sum left right : ℕ) → left < right → IsSumming xs size all sum left right
    → IsSumming xs size all (sum + get_or xs left 0) (left + 1) right
sum_left xs size all sum left right h s = record {
  whole =
      let T : ℕ → ℕ = λ k. get_or xs k 0 in
      let more : right - left ≡ suc (right - (left + 1)) = omega arith in
      let e : run T left (right - left) ≡ get_or xs left 0 + run T (suc left) (right - (left + 1)) = ap (run T left) more in
      let f : run T (suc left) (right - (left + 1)) ≡ run T (left + 1) (right - (left + 1)) = ap (λ k. run T k (right - (left + 1))) (omega arith) in
      let w : sum + run T left (right - left) ≡ all = s.whole in
      omega arith;
  order = omega arith;
  inside = s.inside;
  positive = λ h. omega arith;
}

pub sum_right : (xs : List ℕ) (size all sum left right : ℕ) → left < right → IsSumming xs size all sum left right
    → IsSumming xs size all (sum + get_or xs (right - 1) 0) left (right - 1)
sum_right xs size all sum left right h s = record {
  whole =
      let T : ℕ → ℕ = λ k. get_or xs k 0 in
      let more : right - left ≡ suc (right - 1 - left) = omega arith in
      let e : run T left (right - left) ≡ run T left (right - 1 - left) + get_or xs (left + (right - 1 - left)) 0 =
      ap (run T left) more ∙ run_last T left (right - 1 - left) in
      let f : get_or xs (left + (right - 1 - left)) 0 ≡ get_or xs (right - 1) 0 = ap (λ k. get_or xs k 0) (omega arith) in
      let w : sum + run T left (right - left) ≡ all = s.whole in
      omega arith;
  order = omega arith;
  inside = let i : right ≤ 2 * size = s.inside in omega arith;
  positive = λ k. s.positive h;
}

-- a range that begins and ends at even entries
pub sum_half : (xs : List ℕ) (size all sum left right : ℕ) → left % 2 ≡ 0 → right % 2 ≡ 0 → IsTree size xs → IsSumming xs size all sum left right
    → IsSumming xs size all sum (left / 2) (right / 2)
sum_half xs size all sum left right a b t s =
    let T : ℕ → ℕ = λ k. get_or xs k 0 in
    let inside : right ≤ 2 * size = s.inside in
    let order : left ≤ right = s.order in
    let some : left < right → 1 ≤ left = s.positive in
    record {
      whole =
          let e : run T (2 * (left / 2)) (2 * (right / 2 - left / 2)) ≡ run T (left / 2) (right / 2 - left / 2) =
          run_half T (left / 2) (right / 2 - left / 2) (λ k p q. t k (let one : 1 ≤ left = some (omega arith) in omega arith) (omega arith)) in
          let f : run T left (right - left) ≡ run T (2 * (left / 2)) (2 * (right / 2 - left / 2)) =
          ap (λ k. run T k (right - left)) (omega arith) ∙ ap (run T (2 * (left / 2))) (omega arith) in
          let w : sum + run T left (right - left) ≡ all = s.whole in
          omega arith;
      order = omega arith;
      inside = omega arith;
      positive = λ k. (let one : 1 ≤ left = some (omega arith) in omega arith);
    }

-- An odd first entry is taken, and then the range begins at an even one.
pub left_taken : (xs : List ℕ) (size all sum left right v new next : ℕ) → left < right → left % 2 ≡ 1 → v ≡ get_or xs left 0 → new ≡ sum + v
    → next ≡ left + 1 → IsSumming xs size all sum left right → IsSumming xs size all new next right × (next % 2 ≡ 0)
left_taken xs size all sum left right v new next h odd e f g s = (rw (f, g, e) (sum_left xs size all sum left right h s), omega (arith, odd, g))

pub left_even : (xs : List ℕ) (size all sum left right new next : ℕ) → left % 2 ≡ 0 → new ≡ sum → next ≡ left → IsSumming xs size all sum left right
    → IsSumming xs size all new next right × (next % 2 ≡ 0)
left_even xs size all sum left right new next even f g s = (rw (f, g) s, omega (arith, even, g))

-- An odd end moves before the last entry, and then both are even.
pub right_taken : (xs : List ℕ) (size all sum left right v new next : ℕ) → left % 2 ≡ 0 → right % 2 ≡ 1 → v ≡ get_or xs (right - 1) 0 → new ≡ sum + v
    → next ≡ right - 1 → IsTree size xs → IsSumming xs size all sum left right → IsSumming xs size all new (left / 2) (next / 2)
right_taken xs size all sum left right v new next even odd e f g t s =
    let h : left < right = omega (arith, even, odd, s.order) in
    let taken : IsSumming xs size all new left next = rw (f, g, e) (sum_right xs size all sum left right h s) in
    sum_half xs size all new left next even (omega (arith, odd, g)) t taken

pub right_even : (xs : List ℕ) (size all sum left right new next : ℕ) → left % 2 ≡ 0 → right % 2 ≡ 0 → new ≡ sum → next ≡ right → IsTree size xs
    → IsSumming xs size all sum left right → IsSumming xs size all new (left / 2) (next / 2)
right_even xs size all sum left right new next even too f g t s = rw (f, g) (sum_half xs size all sum left right even too t s)

-- each sum on the way is at most the whole
pub sum_room : (xs : List ℕ) (size all sum left right k : ℕ) → left ≤ k → k < right → IsSumming xs size all sum left right → sum + get_or xs k 0 ≤ all
sum_room xs size all sum left right k a b s =
    let T : ℕ → ℕ = λ k. get_or xs k 0 in
    let part : get_or xs k 0 ≤ run T left (right - left) = entry_within T left (right - left) k a (omega arith) in
    let w : sum + run T left (right - left) ≡ all = s.whole in
    omega arith
  where
    entry_within : (T : ℕ → ℕ) (a n k : ℕ) → a ≤ k → k < a + n → T k ≤ run T a n
    entry_within T a zero k p q = absurd (omega arith)
    entry_within T a (suc n) k p q =
        elim (cases_lt a k) [
          | inl less ↦ let rest : T k ≤ run T (suc a) n = entry_within T (suc a) n k less (omega arith) in omega arith
          | inr not_less ↦ let e : T a ≡ T k = ap T (omega arith) in omega arith
        ]

pub zero_at : (n k : ℕ) → ◌≡◌ {A = ℕ} (get_or (replicate n 0) k 0) 0
zero_at zero k = refl
zero_at (suc n) zero = refl
zero_at (suc n) (suc k) = zero_at n k

-- no count stands in a list of zeros
pub run_zeros : (n m : ℕ) (a k : ℕ) → run (λ i. get_or (replicate n 0) (m + i) 0) a k ≡ 0
run_zeros n m a zero = refl
run_zeros n m a (suc k) =
    let here : ◌≡◌ {A = ℕ} (get_or (replicate n 0) (m + a) 0) 0 = zero_at n (m + a) in
    let rest : run (λ i. get_or (replicate n 0) (m + i) 0) (suc a) k ≡ 0 = run_zeros n m (suc a) k in omega arith
