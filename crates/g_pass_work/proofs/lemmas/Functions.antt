-- The functions of the jobs.
use Rattle.std.proofs.Common.{◌≡◌, ◌<◌, ◌≤◌, ◌+◌, ◌-◌, ◌++◌, ◌⊎◌, ℕ, zero, suc, Bool, true, false, cond, List, [], ◌∷◌, length, map, slice_index, Contains, refl, sym, ap, subst, ◌∙◌, arith, inl, inr, length-append}
use Rattle.std.specs.List.{filter, range_with_len}
use Rattle.std.proofs.lemmas.List.FromFn.{length-range_with_len, get_or-range_with_len}
use Rattle.std.proofs.lemmas.List.Elements.{filter-append, Contains-get_or}
use Rattle.g_pass_work.specs.Renewal.{is_stale, stale_below, functions_of, job_of, stale_jobs}

-- a stretch of numbers in two
pub range-split : (a m n k : ℕ) → a + m ≡ k → range_with_len a (m + n) ≡ range_with_len a m ++ range_with_len k n
range-split a zero n k e =
    let whole : zero + n ≡ n = omega arith in
    let from : a ≡ k = omega (arith, e) in
    ap (λ i. range_with_len a i) whole ∙ ap (λ i. range_with_len i n) from
range-split a (suc m) n k e =
    let more : suc m + n ≡ suc (m + n) = omega arith in
    let next : a + 1 + m ≡ k = omega (arith, e) in
    ap (λ i. range_with_len a i) more ∙ ap (λ xs. a ∷ xs) (range-split (a + 1) m n k next)

at-seam : (xs : List ℕ) (x : ℕ) (ys : List ℕ) → slice_index (xs ++ x ∷ ys) (length xs) ≡ x
at-seam [] x ys = refl
at-seam (y ∷ xs) x ys = at-seam xs x ys

pub contains-here : (x : ℕ) (xs : List ℕ) → Contains (x ∷ xs) x
contains-here x xs = (0, omega arith, refl)

pub contains-later : (x y : ℕ) (xs : List ℕ) → Contains xs y → Contains (x ∷ xs) y
contains-later x y xs h = (suc h.0, omega (arith, h.1), h.2)

-- what is in a list is its first element or in the rest
contains-cases : (x y : ℕ) (xs : List ℕ) → Contains (x ∷ xs) y → (x ≡ y) ⊎ Contains xs y
contains-cases x y xs (zero, inside, same) = inl same
contains-cases x y xs (suc i, inside, same) = inr (i, omega (arith, inside), same)

pub contains-none : (y : ℕ) → Contains [] y → ⊥
contains-none y h = omega (arith, h.1)

-- what is in the filtered list is in the list and passes the test
pub contains-filter : (p : ℕ → Bool) (xs : List ℕ) (y : ℕ) → Contains (filter p xs) y → Contains xs y × (p y ≡ true)
contains-filter p [] y h = absurd (contains-none y h)
contains-filter p (x ∷ xs) y h = by (p x) refl (contains-filter p xs y) h where
  by : (b : Bool) → p x ≡ b → (Contains (filter p xs) y → Contains xs y × (p y ≡ true)) → Contains (cond b (x ∷ filter p xs) (filter p xs)) y → Contains (x ∷ xs) y × (p y ≡ true)
  by true e rest h' =
      elim (contains-cases x y (filter p xs) h') [
        | inl same ↦ (subst (λ z. Contains (x ∷ xs) z) same (contains-here x xs), subst (λ z. p z ≡ true) same e)
        | inr there ↦ let it = rest there in (contains-later x y xs it.0, it.1)
      ]
  by false e rest h' = let it = rest h' in (contains-later x y xs it.0, it.1)

contains-map : (f : ℕ → ℕ) (xs : List ℕ) (y : ℕ) → Contains (map f xs) y → (x : ℕ) × Contains xs x × (f x ≡ y)
contains-map f [] y h = absurd (contains-none y h)
contains-map f (x ∷ xs) y h =
    elim (contains-cases (f x) y (map f xs) h) [
      | inl same ↦ (x, contains-here x xs, same)
      | inr there ↦ let it = contains-map f xs y there in (it.0, contains-later x it.0 xs it.1, it.2)
    ]

pub contains-range : (a n y : ℕ) → Contains (range_with_len a n) y → y < a + n
contains-range a n y h =
    let inside : h.0 < n = omega (arith, h.1, length-range_with_len a n) in
    let is : a + h.0 ≡ y = sym (get_or-range_with_len a n h.0 y inside) ∙ h.2 in
    omega (arith, inside, is)

module _ (stale : List Bool) where
  -- the stale functions from one on
  below-split : (d n : ℕ) → d < n → is_stale stale d ≡ true → stale_below stale n ≡ stale_below stale d ++ d ∷ filter (is_stale stale) (range_with_len (d + 1) (n - d - 1))
  below-split d n low is =
      let rest = n - d - 1 in
      let e : n ≡ d + suc rest = omega (arith, low) in
      let from : 0 + d ≡ d = omega arith in
      let p = is_stale stale in
      ap (λ k. stale_below stale k) e
      ∙ (ap (filter p) (range-split 0 d (suc rest) d from)
      ∙ (filter-append p (range_with_len 0 d) (range_with_len d (suc rest))
      ∙ ap (λ b. stale_below stale d ++ cond b (d ∷ filter p (range_with_len (d + 1) rest)) (filter p (range_with_len (d + 1) rest))) is))

  pub job-inside : (d n : ℕ) → d < n → is_stale stale d ≡ true → job_of stale d < length (stale_below stale n)
  job-inside d n low is =
      let rest = filter (is_stale stale) (range_with_len (d + 1) (n - d - 1)) in
      let long = ap (λ (xs : List ℕ). length xs) (below-split d n low is) ∙ length-append (stale_below stale d) (d ∷ rest) in
      omega (arith, long)

  pub job-is : (d n : ℕ) → d < n → is_stale stale d ≡ true → slice_index (stale_below stale n) (job_of stale d) ≡ d
  job-is d n low is =
      ap (λ xs. slice_index xs (job_of stale d)) (below-split d n low is) ∙ at-seam (stale_below stale d) d (filter (is_stale stale) (range_with_len (d + 1) (n - d - 1)))

  -- the function of a job is one of the list, and stale
  pub function-is : (i : ℕ) → i < length (functions_of stale) → (slice_index (functions_of stale) i < length stale) × (is_stale stale (slice_index (functions_of stale) i) ≡ true)
  function-is i inside =
      let j = slice_index (functions_of stale) i in
      let it = contains-filter (is_stale stale) (range_with_len 0 (length stale)) j (Contains-get_or (functions_of stale) i 0 inside) in
      (omega (arith, contains-range 0 (length stale) j it.0), it.1)

  -- a job among those of some functions is that of a stale one of them
  pub job-from : (js : List ℕ) (k : ℕ) → Contains (stale_jobs stale js) k → (j : ℕ) × Contains js j × (is_stale stale j ≡ true) × (job_of stale j ≡ k)
  job-from js k h =
      let it = contains-map (job_of stale) (filter (is_stale stale) js) k h in
      let from = contains-filter (is_stale stale) js it.0 it.1 in
      (it.0, from.0, from.1, it.2)

shorter : (p : ℕ → Bool) (xs : List ℕ) → length (filter p xs) ≤ length xs
shorter p [] = omega arith
shorter p (x ∷ xs) = by (p x) (shorter p xs) where
  by : (b : Bool) → length (filter p xs) ≤ length xs → length (cond b (x ∷ filter p xs) (filter p xs)) ≤ length (x ∷ xs)
  by true rest = omega (arith, rest)
  by false rest = omega (arith, rest)

pub few-functions : (stale : List Bool) → length (functions_of stale) ≤ length stale
few-functions stale = omega (arith, shorter (is_stale stale) (range_with_len 0 (length stale)), length-range_with_len 0 (length stale))
