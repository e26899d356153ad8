-- Least numbers that pass a test, greatest values of those that do, and how many do.
use Rattle.std.proofs.Common.{◌≡◌, ℕ, zero, suc, ◌+◌, ◌<◌, ◌≤◌, ◌⊎◌, max, Bool, true, false, refl, sym, ap, ◌∙◌, inl, inr, arith}
use Rattle.std.proofs.lemmas.Bool.{cases_eq, cases_lt}

-- the least number that passes, where one does
pub least-of : (p : ℕ → Bool) (k : ℕ) → p k ≡ true → (m : ℕ) × (p m ≡ true) × ((i : ℕ) → p i ≡ true → m ≤ i)
least-of p zero h = (0, h, λ i e. omega arith)
least-of p (suc k) h = by (p 0) refl (least-of (λ i. p (suc i)) k h)
  where
    by : (b : Bool) → p 0 ≡ b → (m : ℕ) × (p (suc m) ≡ true) × ((i : ℕ) → p (suc i) ≡ true → m ≤ i) → (m : ℕ) × (p m ≡ true) × ((i : ℕ) → p i ≡ true → m ≤ i)
    by true e rest = (0, e, λ i passes. omega arith)
    by false e rest = (suc rest.0, rest.1, past)
      where
        past : (i : ℕ) → p i ≡ true → suc rest.0 ≤ i
        past zero passes = let clash : false ≡ true = sym e ∙ passes in absurd cc
        past (suc i) passes = omega (arith, rest.2 i passes)

-- ---- the least bound above the values of those that pass, of the numbers below n

abbrev pub raised : Bool → (value bound : ℕ) → ℕ
raised true value bound = max (suc value) bound
raised false value bound = bound

abbrev pub bound_of : (p : ℕ → Bool) → (f : ℕ → ℕ) → (n : ℕ) → ℕ
bound_of p f zero = 0
bound_of p f (suc n) = raised (p n) (f n) (bound_of p f n)

pub bound-above : (p : ℕ → Bool) (f : ℕ → ℕ) (n k : ℕ) → k < n → p k ≡ true → f k < bound_of p f n
bound-above p f zero k low h = absurd (omega arith)
bound-above p f (suc n) k low h = by (p n) refl (cases_eq k n) (λ lower. bound-above p f n k lower h)
  where
    by : (b : Bool) → p n ≡ b → (k ≡ n) ⊎ (k ≡ n → ⊥) → (k < n → f k < bound_of p f n) → f k < raised b (f n) (bound_of p f n)
    by true e (inl same) rest = omega (arith, ap f same)
    by true e (inr other) rest = omega (arith, rest (omega (arith, low, other)))
    by false e (inl same) rest = let clash : false ≡ true = sym e ∙ (ap p (sym same) ∙ h) in absurd cc
    by false e (inr other) rest = rest (omega (arith, low, other))

pub bound-tight : (p : ℕ → Bool) (f : ℕ → ℕ) (n : ℕ) → (bound_of p f n ≡ 0) ⊎ ((k : ℕ) × (p k ≡ true) × (bound_of p f n ≡ f k + 1))
bound-tight p f zero = inl refl
bound-tight p f (suc n) = by (p n) refl (cases_lt (bound_of p f n) (suc (f n))) (bound-tight p f n)
  where
    by : (b : Bool) → p n ≡ b → (bound_of p f n < suc (f n)) ⊎ (suc (f n) ≤ bound_of p f n) → (bound_of p f n ≡ 0) ⊎ ((k : ℕ) × (p k ≡ true) × (bound_of p f n ≡ f k + 1)) →
        (raised b (f n) (bound_of p f n) ≡ 0) ⊎ ((k : ℕ) × (p k ≡ true) × (raised b (f n) (bound_of p f n) ≡ f k + 1))
    by true e (inl less) rest = inr (n, e, omega (arith, less))
    by true e (inr more) (inl none) = absurd (omega (arith, more, none))
    by true e (inr more) (inr some) = inr (some.0, some.1, omega (arith, more, some.2))
    by false e order (inl none) = inl none
    by false e order (inr some) = inr (some.0, some.1, some.2)

-- values that are the same where the test is passed have one bound
pub bound-same : (p : ℕ → Bool) (f g : ℕ → ℕ) (n : ℕ) → ((k : ℕ) → k < n → p k ≡ true → f k ≡ g k) → bound_of p f n ≡ bound_of p g n
bound-same p f g zero same = refl
bound-same p f g (suc n) same = by (p n) refl (bound-same p f g n (λ k low h. same k (omega (arith, low)) h))
  where
    by : (b : Bool) → p n ≡ b → bound_of p f n ≡ bound_of p g n → raised b (f n) (bound_of p f n) ≡ raised b (g n) (bound_of p g n)
    by true e rest = omega (arith, same n (omega arith) e, rest)
    by false e rest = rest

-- ---- how many of the numbers below n pass

abbrev pub counted : Bool → (count : ℕ) → ℕ
counted true count = suc count
counted false count = count

abbrev pub count_below : (p : ℕ → Bool) → (n : ℕ) → ℕ
count_below p zero = 0
count_below p (suc n) = counted (p n) (count_below p n)

pub count-most : (p : ℕ → Bool) (n : ℕ) → count_below p n ≤ n
count-most p zero = omega arith
count-most p (suc n) = by (p n) (count-most p n)
  where
    by : (b : Bool) → count_below p n ≤ n → counted b (count_below p n) ≤ suc n
    by true rest = omega (arith, rest)
    by false rest = omega (arith, rest)

count-le : (p q : ℕ → Bool) (n : ℕ) → ((k : ℕ) → q k ≡ true → p k ≡ true) → count_below q n ≤ count_below p n
count-le p q zero within = omega arith
count-le p q (suc n) within = by (p n) (q n) (within n) (count-le p q n within)
  where
    by : (a b : Bool) → (b ≡ true → a ≡ true) → count_below q n ≤ count_below p n → counted b (count_below q n) ≤ counted a (count_below p n)
    by true true here rest = omega (arith, rest)
    by true false here rest = omega (arith, rest)
    by false true here rest = let clash : false ≡ true = here refl in absurd cc
    by false false here rest = rest

-- where one passes the first test alone, fewer pass the second
pub count-less : (p q : ℕ → Bool) (n i : ℕ) → ((k : ℕ) → q k ≡ true → p k ≡ true) → i < n → p i ≡ true → q i ≡ false → count_below q n < count_below p n
count-less p q zero i within low passes fails = absurd (omega arith)
count-less p q (suc n) i within low passes fails = by (p n) (q n) refl refl (cases_eq i n) (λ lower. count-less p q n i within lower passes fails)
  where
    by : (a b : Bool) → p n ≡ a → q n ≡ b → (i ≡ n) ⊎ (i ≡ n → ⊥) → (i < n → count_below q n < count_below p n) → counted b (count_below q n) < counted a (count_below p n)
    by true true e d (inl same) rest = let clash : true ≡ false = sym d ∙ (ap q (sym same) ∙ fails) in absurd cc
    by true false e d (inl same) rest = omega (arith, count-le p q n within)
    by false b e d (inl same) rest = let clash : false ≡ true = sym e ∙ (ap p (sym same) ∙ passes) in absurd cc
    by true true e d (inr other) rest = omega (arith, rest (omega (arith, low, other)))
    by true false e d (inr other) rest = omega (arith, rest (omega (arith, low, other)))
    by false true e d (inr other) rest = let clash : false ≡ true = sym e ∙ within n d in absurd cc
    by false false e d (inr other) rest = rest (omega (arith, low, other))
