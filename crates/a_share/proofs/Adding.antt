-- One more at an entry of a tree of sums, and in each sum of it.
use Rattle.std.proofs.Common.{◌≡◌, ◌≢◌, ◌⊎◌, ◌+◌, ◌*◌, ◌/◌, ◌<◌, ◌≤◌, ℕ, zero, suc, List, length, set, get_or, refl, sym, ap, ◌∙◌, inl, inr, length-set, get_or-set_same, get_or-set_other, arith, true, eqb-true, eq-eqb}
use Rattle.std.specs.Prelude.{◌==◌}
use Rattle.std.proofs.lemmas.Bool.{cases_Bool}
use Rattle.a_share.specs.Sums.{run, IsTree, one_at}

pub one_cases : (a b : ℕ) → ((a ≡ b) × (one_at a b ≡ 1)) ⊎ ((a ≢ b) × (one_at a b ≡ 0))
one_cases a b =
    elim (cases_Bool (a == b)) [
      | inl same ↦ inl (eqb-true a b same, rw same refl)
      | inr other ↦ inr ((λ e. absurd (let h : (a == b) ≡ true = eq-eqb a b e in cc)), rw other refl)
    ]

-- How far the addition has come: `entry` is the next to be added to.
pub record IsAdding (old : List ℕ) (last entry : ℕ) (new : List ℕ) : Type 0 where
  pub same : length new ≡ length old
  pub inside : entry ≤ last
  pub left : (k : ℕ) → k ≤ entry → get_or new k 0 ≡ get_or old k 0
  pub most : (k : ℕ) → get_or new k 0 ≤ get_or old k 0 + 1
  pub tree : (size k : ℕ) → length old ≡ 2 * size → size ≤ last → IsTree size old → 1 ≤ k → k < size
      → get_or new k 0 + one_at entry k ≡ get_or new (2 * k) 0 + get_or new (2 * k + 1) 0
  pub others : (size k : ℕ) → length old ≡ 2 * size → size ≤ last → size ≤ k → get_or new k 0 + one_at entry k ≡ get_or old k 0 + one_at last k

pub at_bump : (xs : List ℕ) (e k : ℕ) → e < length xs → get_or (set xs e (get_or xs e 0 + 1)) k 0 ≡ get_or xs k 0 + one_at e k
at_bump xs e k h =
    elim (one_cases e k) [
      | inl here ↦
          let same : e ≡ k = here.0 in
          let one : one_at e k ≡ 1 = here.1 in
          rw (sym same) (get_or-set_same xs e (get_or xs e 0 + 1) 0 h ∙ (let two : one_at e e ≡ 1 = ap (one_at e) same ∙ one in omega arith))
      | inr other ↦
          let none : one_at e k ≡ 0 = other.1 in
          get_or-set_other xs e k (get_or xs e 0 + 1) 0 (λ e. other.0 (sym e)) ∙ omega arith
    ]

-- what is at an entry after one more, with its twos
two_parts : (e k : ℕ) → 1 ≤ k → 1 ≤ e → one_at e (2 * k) + one_at e (2 * k + 1) ≡ one_at (e / 2) k
two_parts e k a b =
    elim (one_cases e (2 * k)) [
      | inl x ↦ elim (one_cases e (2 * k + 1)) [
        | inl y ↦ let p : e ≡ 2 * k = x.0 in let q : e ≡ 2 * k + 1 = y.0 in absurd (omega arith)
        | inr y ↦ elim (one_cases (e / 2) k) [
          | inl z ↦ let u = x.1 in let v = y.1 in let w = z.1 in omega arith
          | inr z ↦ let p : e ≡ 2 * k = x.0 in absurd (z.0 (omega arith))
        ]
      ]
      | inr x ↦ elim (one_cases e (2 * k + 1)) [
        | inl y ↦ elim (one_cases (e / 2) k) [
          | inl z ↦ let u = x.1 in let v = y.1 in let w = z.1 in omega arith
          | inr z ↦ let p : e ≡ 2 * k + 1 = y.0 in absurd (z.0 (omega arith))
        ]
        | inr y ↦ elim (one_cases (e / 2) k) [
          | inl z ↦ elim (half e k z.0) [ inl p ↦ absurd (x.0 p) | inr p ↦ absurd (y.0 p) ]
          | inr z ↦ let u = x.1 in let v = y.1 in let w = z.1 in omega arith
        ]
      ]
    ]
  where
    half : (e k : ℕ) → e / 2 ≡ k → (e ≡ 2 * k) ⊎ (e ≡ 2 * k + 1)
    half e k h =
        elim (one_cases e (2 * k)) [
          | inl x ↦ inl x.0
          | inr x ↦ let ne : e ≢ 2 * k = x.0 in inr (omega arith)
        ]

pub next : (old : List ℕ) (last entry : ℕ) (new after : List ℕ) → last < length old → 0 < entry → IsAdding old last entry new
    → after ≡ set new entry (get_or new entry 0 + 1) → IsAdding old last (entry / 2) after
next old last entry new after room some a e =
    let less : entry / 2 < entry = omega arith in
    let within : entry ≤ last = a.inside in
    let size_same : length new ≡ length old = a.same in
    let inside : entry < length new = omega arith in
    let now : (k : ℕ) → get_or after k 0 ≡ get_or new k 0 + one_at entry k = λ k. ap (λ z. get_or z k 0) e ∙ at_bump new entry k inside in
    record {
      same = ap length e ∙ length-set new entry (get_or new entry 0 + 1) ∙ a.same;
      inside = omega arith;
      left = λ k h.
          elim (one_cases entry k) [
            | inl here ↦ let same : entry ≡ k = here.0 in absurd (omega arith)
            | inr other ↦
                let none : one_at entry k ≡ 0 = other.1 in
                let was : get_or new k 0 ≡ get_or old k 0 = a.left k (omega arith) in
                let is : get_or after k 0 ≡ get_or new k 0 + one_at entry k = now k in omega arith
          ];
      most = λ k.
          let is : get_or after k 0 ≡ get_or new k 0 + one_at entry k = now k in
          elim (one_cases entry k) [
            | inl here ↦
                let same : entry ≡ k = here.0 in
                let one : one_at entry k ≡ 1 = here.1 in
                let was : get_or new k 0 ≡ get_or old k 0 = a.left k (omega arith) in omega arith
            | inr other ↦
                let none : one_at entry k ≡ 0 = other.1 in
                let was : get_or new k 0 ≤ get_or old k 0 + 1 = a.most k in omega arith
          ];
      tree = λ size k l b t p q.
          let was : get_or new k 0 + one_at entry k ≡ get_or new (2 * k) 0 + get_or new (2 * k + 1) 0 = a.tree size k l b t p q in
          let i0 : get_or after k 0 ≡ get_or new k 0 + one_at entry k = now k in
          let i1 : get_or after (2 * k) 0 ≡ get_or new (2 * k) 0 + one_at entry (2 * k) = now (2 * k) in
          let i2 : get_or after (2 * k + 1) 0 ≡ get_or new (2 * k + 1) 0 + one_at entry (2 * k + 1) = now (2 * k + 1) in
          let parts : one_at entry (2 * k) + one_at entry (2 * k + 1) ≡ one_at (entry / 2) k = two_parts entry k p (omega arith) in
          omega arith;
      others = λ size k l b p.
          let was : get_or new k 0 + one_at entry k ≡ get_or old k 0 + one_at last k = a.others size k l b p in
          let is : get_or after k 0 ≡ get_or new k 0 + one_at entry k = now k in
          elim (one_cases (entry / 2) k) [
            | inl here ↦ let same : entry / 2 ≡ k = here.0 in absurd (omega arith)
            | inr other ↦ let none : one_at (entry / 2) k ≡ 0 = other.1 in omega arith
          ];
    }

module _ (old new : List ℕ) (last : ℕ) (a : IsAdding old last 0 new) where
  pub tree_again : (size : ℕ) → length old ≡ 2 * size → size ≤ last → IsTree size old → IsTree size new
  tree_again size l b t k p q =
      let is : get_or new k 0 + one_at 0 k ≡ get_or new (2 * k) 0 + get_or new (2 * k + 1) 0 = a.tree size k l b t p q in
      elim (one_cases 0 k) [
        | inl here ↦ let same : 0 ≡ k = here.0 in absurd (omega arith)
        | inr other ↦ let none : one_at 0 k ≡ 0 = other.1 in omega arith
      ]

-- ---- runs

pub run_shift : (f : ℕ → ℕ) (s a n : ℕ) → run (λ i. f (s + i)) a n ≡ run f (s + a) n
run_shift f s a zero = refl
run_shift f s a (suc n) =
    let e : s + suc a ≡ suc (s + a) = omega arith in
    ap (λ z. f (s + a) + z) (run_shift f s (suc a) n ∙ ap (λ z. run f z n) e)

pub run_last : (f : ℕ → ℕ) (a n : ℕ) → run f a (suc n) ≡ run f a n + f (a + n)
run_last f a zero = let e : a ≡ a + 0 = omega arith in let h : f a ≡ f (a + 0) = ap f e in omega arith
run_last f a (suc n) =
    let h : run f (suc a) (suc n) ≡ run f (suc a) n + f (suc a + n) = run_last f (suc a) n in
    let e : f (suc a + n) ≡ f (a + suc n) = ap f (omega arith) in omega arith

-- where each value is the sum of two, a run is half as long
pub run_half : (f : ℕ → ℕ) (a n : ℕ) → ((k : ℕ) → a ≤ k → k < a + n → f k ≡ f (2 * k) + f (2 * k + 1)) → run f (2 * a) (2 * n) ≡ run f a n
run_half f a zero h = refl
run_half f a (suc n) h =
    let here : f a ≡ f (2 * a) + f (2 * a + 1) = h a (omega arith) (omega arith) in
    let rest : run f (2 * suc a) (2 * n) ≡ run f (suc a) n = run_half f (suc a) n (λ k p q. h k (omega arith) (omega arith)) in
    let twice : 2 * suc n ≡ suc (suc (2 * n)) = omega arith in
    let opened : run f (2 * a) (2 * suc n) ≡ f (2 * a) + (f (suc (2 * a)) + run f (suc (suc (2 * a))) (2 * n)) = ap (run f (2 * a)) twice in
    let second : f (suc (2 * a)) ≡ f (2 * a + 1) = ap f (omega arith) in
    let third : run f (suc (suc (2 * a))) (2 * n) ≡ run f (2 * suc a) (2 * n) = ap (λ z. run f z (2 * n)) (omega arith) in
    omega arith
