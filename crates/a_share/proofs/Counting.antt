-- Counts after one is added.
use Rattle.std.proofs.Common.{◌≡◌, ◌+◌, ◌-◌, ◌*◌, ◌^◌, ◌<◌, ◌≤◌, ℕ, zero, suc, true, false, if◌then◌else◌, List, [], ◌∷◌, length, get_or, vec_len, refl, sym, ap, ◌∙◌, subst, inl, inr, arith, replicate, take, ◌++◌}
use Rattle.std.specs.Prelude.{nat_le, nat_lt}
use Rattle.std.proofs.lemmas.Bool.{cases_lt}
use Rattle.std.proofs.lemmas.Bool.Decides.{nat_tests}
use Rattle.a_share.specs.Sums.{run, IsTree, one_at, is_in}
use Rattle.a_share.specs.Counts.{AreCounts, AreFilled, between}
use Rattle.a_share.specs.declared.counts.Counts.{Counts}
use Rattle.a_share.proofs.Adding.{one_cases, run_last}
use Rattle.a_share.proofs.Summing.{IsSumming, run_zeros, sum_begun, sum_room, zero_at}

abbrev pub one_in : (from to position : ℕ) → ℕ
one_in l r p = if is_in l r p then 1 else 0

inside_one : (l r p : ℕ) → l ≤ p → p < r → one_in l r p ≡ 1
inside_one l r p a b =
    let x : nat_le l p ≡ true = grind (arith, nat_tests) in
    let y : nat_lt p r ≡ true = grind (arith, nat_tests) in rw (x, y) refl

before_none : (l r p : ℕ) → p < l → one_in l r p ≡ 0
before_none l r p a = let x : nat_le l p ≡ false = grind (arith, nat_tests) in rw x refl

after_none : (l r p : ℕ) → l ≤ p → r ≤ p → one_in l r p ≡ 0
after_none l r p a b =
    let x : nat_le l p ≡ true = grind (arith, nat_tests) in
    let y : nat_lt p r ≡ false = grind (arith, nat_tests) in rw (x, y) refl

-- one more at a position is one more in each run that has it
pub run_added : (f g : ℕ → ℕ) (p l n : ℕ) → ((i : ℕ) → g i ≡ f i + one_at p i) → run g l n ≡ one_in l (l + n) p + run f l n
run_added f g p l zero h =
    elim (cases_lt p l) [
      | inl less ↦ let e : one_in l (l + 0) p ≡ 0 = before_none l (l + 0) p less in omega arith
      | inr more ↦ let e : one_in l (l + 0) p ≡ 0 = after_none l (l + 0) p more (omega arith) in omega arith
    ]
run_added f g p l (suc n) h =
    let rest : run g (suc l) n ≡ one_in (suc l) (suc l + n) p + run f (suc l) n = run_added f g p (suc l) n h in
    let here : g l ≡ f l + one_at p l = h l in
    elim (one_cases p l) [
      | inl same ↦
          let at : p ≡ l = same.0 in
          let one : one_at p l ≡ 1 = same.1 in
          let now : one_in l (l + suc n) p ≡ 1 = inside_one l (l + suc n) p (omega arith) (omega arith) in
          let none : one_in (suc l) (suc l + n) p ≡ 0 = before_none (suc l) (suc l + n) p (omega arith) in omega arith
      | inr other ↦
          let apart = other.0 in
          let none : one_at p l ≡ 0 = other.1 in
          elim (cases_lt p l) [
            | inl less ↦
                let now : one_in l (l + suc n) p ≡ 0 = before_none l (l + suc n) p less in
                let then_ : one_in (suc l) (suc l + n) p ≡ 0 = before_none (suc l) (suc l + n) p (omega arith) in omega arith
            | inr more ↦
                let above : l < p = omega (arith, apart) in
                elim (cases_lt p (l + suc n)) [
                  | inl below ↦
                      let now : one_in l (l + suc n) p ≡ 1 = inside_one l (l + suc n) p more below in
                      let then_ : one_in (suc l) (suc l + n) p ≡ 1 = inside_one (suc l) (suc l + n) p above (omega arith) in omega arith
                  | inr past ↦
                      let now : one_in l (l + suc n) p ≡ 0 = after_none l (l + suc n) p more past in
                      let then_ : one_in (suc l) (suc l + n) p ≡ 0 = after_none (suc l) (suc l + n) p above (omega arith) in omega arith
                ]
          ]
    ]

one_at_shift : (s p i : ℕ) → one_at (s + p) (s + i) ≡ one_at p i
one_at_shift s p i =
    elim (one_cases p i) [
      | inl same ↦
          let at : p ≡ i = same.0 in
          elim (one_cases (s + p) (s + i)) [
            | inl x ↦ x.1 ∙ sym same.1
            | inr x ↦ absurd (x.0 (omega arith))
          ]
      | inr other ↦
          elim (one_cases (s + p) (s + i)) [
            | inl x ↦ absurd (other.0 (let e : s + p ≡ s + i = x.0 in omega arith))
            | inr x ↦ x.1 ∙ sym other.1
          ]
    ]

module _ (old new : Counts) (p : ℕ) (before after : List ℕ) (counts : AreFilled old) (room : p < old.size) (size : new.size ≡ old.size) (more : new.total ≡ old.total + 1) (less : old.total < 4294967295) (same : vec_len new.sums ≡ vec_len old.sums) (was : before ≡ old.sums.items) (is : new.sums.items ≡ after) (trees : (size : ℕ) → length before ≡ 2 * size → size ≤ old.size + p → IsTree size before → IsTree size after) (ones : (size k : ℕ) → length before ≡ 2 * size → size ≤ old.size + p → size ≤ k → get_or after k 0 ≡ get_or before k 0 + one_at (old.size + p) k) (mosts : (k : ℕ) → get_or after k 0 ≤ get_or before k 0 + 1) where
  long : length before ≡ 2 * old.size
  long = ap length was ∙ (let e : vec_len old.sums ≡ 2 * old.size = counts.length in omega (arith, old.sums.ok.0))

  tree : IsTree old.size new.sums.items
  tree = subst (IsTree old.size) (sym is) (trees old.size long (omega arith) (subst (IsTree old.size) (sym was) counts.tree))

  others : (k : ℕ) → old.size ≤ k → get_or new.sums.items k 0 ≡ get_or old.sums.items k 0 + one_at (old.size + p) k
  others k h = ap (λ z. get_or z k 0) is ∙ (ones old.size k long (omega arith) h ∙ ap (λ z. get_or z k 0 + one_at (old.size + p) k) was)

  most : (k : ℕ) → get_or new.sums.items k 0 ≤ get_or old.sums.items k 0 + 1
  most k =
      let a : get_or new.sums.items k 0 ≡ get_or after k 0 = ap (λ z. get_or z k 0) is in
      let b : get_or before k 0 ≡ get_or old.sums.items k 0 = ap (λ z. get_or z k 0) was in
      let c : get_or after k 0 ≤ get_or before k 0 + 1 = mosts k in omega arith

  pub added : (l r : ℕ) → l ≤ r → r ≤ old.size → between new l r ≡ one_in l r p + between old l r
  added l r a b =
      let f : ℕ → ℕ = λ i. get_or old.sums.items (old.size + i) 0 in
      let g : ℕ → ℕ = λ i. get_or new.sums.items (old.size + i) 0 in
      let e : between new l r ≡ run g l (r - l) = ap (λ s. run (λ i. get_or new.sums.items (s + i) 0) l (r - l)) size in
      let m : run g l (r - l) ≡ one_in l (l + (r - l)) p + run f l (r - l) =
      run_added f g p l (r - l) (λ i. others (old.size + i) (omega arith) ∙ ap (λ z. get_or old.sums.items (old.size + i) 0 + z) (one_at_shift old.size p i)) in
      let t : one_in l (l + (r - l)) p ≡ one_in l r p = ap (λ z. one_in l z p) (omega arith) in
      e ∙ m ∙ ap (λ z. z + run f l (r - l)) t

  pub filled_again : AreFilled new
  filled_again = record {
    length = same ∙ counts.length ∙ sym (ap (λ z. 2 * z) size);
    tree = λ k a b. tree k a (let e : new.size ≡ old.size = size in omega arith);
    fits = (let t : new.total ≡ old.total + 1 = more in omega arith);
    entries = λ k.
        let had : get_or old.sums.items k 0 ≤ old.total = counts.entries k in
        let now : get_or new.sums.items k 0 ≤ get_or old.sums.items k 0 + 1 = most k in
        let t : new.total ≡ old.total + 1 = more in omega arith;
    sums = λ l r a b.
        let inside : r ≤ old.size = (let e : new.size ≡ old.size = size in omega arith) in
        let had : between old l r ≤ old.total = counts.sums l r a inside in
        let now : between new l r ≡ one_in l r p + between old l r = added l r a inside in
        let one : one_in l r p ≤ 1 = at_most_one l r p in
        let t : new.total ≡ old.total + 1 = more in omega arith;
  }
    where
      at_most_one : (l r p : ℕ) → one_in l r p ≤ 1
      at_most_one l r p =
          elim (cases_lt p l) [
            | inl less ↦ let e : one_in l r p ≡ 0 = before_none l r p less in omega arith
            | inr more ↦
                elim (cases_lt p r) [
                  | inl below ↦ let e : one_in l r p ≡ 1 = inside_one l r p more below in omega arith
                  | inr past ↦ let e : one_in l r p ≡ 0 = after_none l r p more past in omega arith
                ]
          ]

-- An entry in a range that is summed is there, and its sum with what was summed fits. The size may be that of other counts.
module _ (c : Counts) (filled : AreFilled c) (n from to sum left right : ℕ) (size : n ≡ c.size) (order : from ≤ to) (inside : to ≤ n) (s : IsSumming c.sums.items n (between c from to) sum left right) where
  pub entry_there : (k : ℕ) → k < right → k < length c.sums.items
  entry_there k h = omega (arith, h, s.inside, size, filled.length, c.sums.ok.0)

  pub entry_fits : (k v : ℕ) → left ≤ k → k < right → v ≡ get_or c.sums.items k 0 → sum + v ≤ 4294967295
  entry_fits k v a b e =
      let room : sum + get_or c.sums.items k 0 ≤ between c from to = sum_room c.sums.items n (between c from to) sum left right k a b s in
      let most : between c from to ≤ c.total = filled.sums from to order (omega (arith, inside, size)) in
      omega (arith, room, most, filled.fits, e)

  pub tree_there : IsTree n c.sums.items
  tree_there = subst (λ m. IsTree m c.sums.items) (sym size) filled.tree

pub summing_begun : (c : Counts) (n from to : ℕ) → n ≡ c.size → from ≤ to → to ≤ n → IsSumming c.sums.items n (between c from to) 0 (n + from) (n + to)
summing_begun c n from to e a b =
    subst (λ m. IsSumming c.sums.items n (run (λ i. get_or c.sums.items (m + i) 0) from (to - from)) 0 (n + from) (n + to)) e
    (sum_begun c.sums.items n from to a b)

-- one count more
pub between_next : (c : Counts) (i : ℕ) → between c 0 (i + 1) ≡ between c 0 i + between c i (i + 1)
between_next c i =
    let f : ℕ → ℕ = λ k. get_or c.sums.items (c.size + k) 0 in
    let count : i + 1 - 0 ≡ suc i = omega arith in
    let all : run f 0 (i + 1 - 0) ≡ run f 0 (suc i) = ap (run f 0) count in
    let last : run f 0 (suc i) ≡ run f 0 i + f (0 + i) = run_last f 0 i in
    let single : i + 1 - i ≡ suc 0 = omega arith in
    let one : run f i (i + 1 - i) ≡ f i + 0 = ap (run f i) single in
    let at : 0 + i ≡ i = omega arith in
    let same : f (0 + i) ≡ f i = ap f at in
    let before : i - 0 ≡ i = omega arith in
    let first : run f 0 (i - 0) ≡ run f 0 i = ap (run f 0) before in
    let is : run f 0 (i + 1 - 0) ≡ run f 0 (i - 0) + run f i (i + 1 - i) = omega (arith, all, last, one, same, first) in
    is

-- something is counted
pub counted : (c : Counts) → c.size < 2 ^ 63 → 0 < c.total → AreFilled c → AreCounts c
counted c small more filled = record { small = small; none = λ e. absurd (omega (arith, e, more)); some = λ e. filled }

-- ---- none is counted yet

empty_at : (xs : List ℕ) (k : ℕ) → length xs ≡ 0 → get_or xs k 0 ≡ 0
empty_at [] k e = refl
empty_at (x ∷ xs) k e = absurd (omega arith)

run_empty : (xs : List ℕ) (m a n : ℕ) → length xs ≡ 0 → run (λ i. get_or xs (m + i) 0) a n ≡ 0
run_empty xs m a zero e = refl
run_empty xs m a (suc n) e =
    let here : get_or xs (m + a) 0 ≡ 0 = empty_at xs (m + a) e in
    let rest : run (λ i. get_or xs (m + i) 0) (suc a) n ≡ 0 = run_empty xs m (suc a) n e in omega arith

pub empty_between : (c : Counts) → vec_len c.sums ≡ 0 → (l r : ℕ) → between c l r ≡ 0
empty_between c e l r = run_empty c.sums.items c.size l (r - l) (omega (arith, e, c.sums.ok.0))

pub empty_counts : (c : Counts) → c.size < 2 ^ 63 → c.total ≡ 0 → vec_len c.sums ≡ 0 → AreCounts c
empty_counts c small total e = record { small = small; none = λ t. e; some = λ t. absurd (t total) }

-- an empty list that is filled with zeros
pub filled_items : (old new : List ℕ) (size n : ℕ) → length old ≡ size → size ≡ 0 → new ≡ take n old ++ replicate (n - size) 0 → new ≡ replicate n 0
filled_items old new size n long none is =
    let e : old ≡ [] = no_items old (omega (arith, none, long)) in
    is ∙ ap (λ xs. take n xs ++ replicate (n - size) 0) e ∙ ap (λ xs. xs ++ replicate (n - size) 0) (take_none n)
    ∙ ap (λ k. replicate k 0) (let z : n - size ≡ n = omega (arith, none) in z)
  where
    no_items : (xs : List ℕ) → length xs ≡ 0 → xs ≡ []
    no_items [] e = refl
    no_items (x ∷ xs) e = absurd (omega arith)

    take_none : (n : ℕ) → ◌≡◌ {A = List ℕ} (take n []) []
    take_none zero = refl
    take_none (suc n) = refl

module _ (new : Counts) (items : new.sums.items ≡ replicate (2 * new.size) 0) where
  pub none_between : (l r : ℕ) → between new l r ≡ 0
  none_between l r = ap (λ xs. run (λ i. get_or xs (new.size + i) 0) l (r - l)) items ∙ run_zeros (2 * new.size) new.size l (r - l)

  pub none_filled : vec_len new.sums ≡ 2 * new.size → new.total ≡ 0 → AreFilled new
  none_filled long none = record {
    length = long;
    fits = omega arith;
    tree = λ k a b.
        let x : get_or new.sums.items k 0 ≡ 0 = none_at k in
        let y : get_or new.sums.items (2 * k) 0 ≡ 0 = none_at (2 * k) in
        let z : get_or new.sums.items (2 * k + 1) 0 ≡ 0 = none_at (2 * k + 1) in omega arith;
    entries = λ k. let x : get_or new.sums.items k 0 ≡ 0 = none_at k in omega arith;
    sums = λ l r a b. let x : between new l r ≡ 0 = none_between l r in omega arith;
  }
    where
      none_at : (k : ℕ) → get_or new.sums.items k 0 ≡ 0
      none_at k = ap (λ xs. get_or xs k 0) items ∙ zero_at (2 * new.size) k

-- ---- whether there are entries or not

pub counts_fit : (c : Counts) → AreCounts c → (l r : ℕ) → l ≤ r → r ≤ c.size → between c l r ≤ 4294967295
counts_fit c counts l r a b =
    elim (cases_lt 0 c.total) [
      | inl more ↦
          let filled : AreFilled c = counts.some (λ e. omega (arith, e, more)) in
          let most : between c l r ≤ c.total = filled.sums l r a b in
          omega (arith, most, filled.fits)
      | inr none ↦ let zero_ : between c l r ≡ 0 = empty_between c (counts.none (omega (arith, none))) l r in omega (arith, zero_)
    ]
