-- What lists contain, and the calls of the lambdas of a list.
use Rattle.std.proofs.Common.{◌≡◌, ◌≤◌, ◌<◌, ℕ, zero, suc, Bool, true, false, cond, List, [], ◌∷◌, length, get_or, Contains, refl, sym, ap, subst, ◌∙◌, inl, inr, ◌⊎◌, arith}
use Rattle.std.specs.Prelude.{◌==◌, ◌||◌}
use Rattle.std.specs.List.{filter, range_with_len}
use Rattle.std.proofs.lemmas.Bool.{cases_lt}
use Rattle.std.proofs.lemmas.Bool.Decides.{nat_tests}
use Rattle.std.proofs.lemmas.List.{length-map, get_or-map, get_or_past}
use Rattle.std.proofs.lemmas.List.FromFn.{length-range_with_len, get_or-range_with_len}
use Rattle.call_order.specs.Units.{Calls, AllKnown}
use Rattle.g_graph.specs.Plain.{PlainLambda}
use Rattle.g_pass_order.specs.Calls.{region_calls, has, callees, calls_of, no_lambda}

-- ---- lists

pub contains-none : {A : Type 0} (x : A) → Contains [] x → ⊥
contains-none x h = omega (arith, h.1)

pub contains-later : {A : Type 0} (x y : A) (ys : List A) → Contains ys x → Contains (y ∷ ys) x
contains-later x y ys h = (suc h.0, omega (arith, h.1), h.2)

pub contains-either : (x y : ℕ) (ys : List ℕ) → Contains (y ∷ ys) x → (y ≡ x) ⊎ Contains ys x
contains-either x y ys (zero, low, same) = inl same
contains-either x y ys (suc k, low, same) = inr (k, omega (arith, low), same)

-- what is in a filtered list is in the list, and passes
pub filtered : (p : ℕ → Bool) (xs : List ℕ) (x : ℕ) → Contains (filter p xs) x → Contains xs x × (p x ≡ true)
filtered p [] x h = absurd (contains-none x h)
filtered p (y ∷ ys) x h = by (p y) refl h (filtered p ys x)
  where
    by : (b : Bool) → p y ≡ b → Contains (cond b (y ∷ filter p ys) (filter p ys)) x → (Contains (filter p ys) x → Contains ys x × (p x ≡ true)) → Contains (y ∷ ys) x × (p x ≡ true)
    by true e (zero, low, same) rest = ((0, omega arith, same), subst (λ z. p z ≡ true) same e)
    by true e (suc i, low, same) rest = let later = rest (i, omega (arith, low), same) in (contains-later x y ys later.0, later.1)
    by false e k rest = let later = rest k in (contains-later x y ys later.0, later.1)

pub passing : (p : ℕ → Bool) (xs : List ℕ) (x : ℕ) → Contains xs x → p x ≡ true → Contains (filter p xs) x
passing p [] x h e = absurd (contains-none x h)
passing p (y ∷ ys) x h e = by (p y) refl (contains-either x y ys h) (λ later. passing p ys x later e)
  where
    by : (b : Bool) → p y ≡ b → (y ≡ x) ⊎ Contains ys x → (Contains ys x → Contains (filter p ys) x) → Contains (cond b (y ∷ filter p ys) (filter p ys)) x
    by true q (inl same) rest = (0, omega arith, same)
    by true q (inr later) rest = contains-later x y (filter p ys) (rest later)
    by false q (inl same) rest = let clash : false ≡ true = sym q ∙ (ap p same ∙ e) in absurd cc
    by false q (inr later) rest = rest later

pub has-is : (xs : List ℕ) (n : ℕ) → Contains xs n → has xs n ≡ true
has-is [] n h = absurd (contains-none n h)
has-is (x ∷ xs) n h = by (contains-either n x xs h) (λ later. has-is xs n later)
  where
    by : (x ≡ n) ⊎ Contains xs n → (Contains xs n → has xs n ≡ true) → ((x == n) || has xs n) ≡ true
    by (inl same) rest = let test : (x == n) ≡ true = grind (arith, nat_tests) in ap (λ b. b || has xs n) test
    by (inr later) rest = or-right (x == n) (has xs n) (rest later)
      where
        or-right : (a b : Bool) → b ≡ true → (a || b) ≡ true
        or-right true b e = refl
        or-right false b e = e

pub has-contains : (xs : List ℕ) (n : ℕ) → has xs n ≡ true → Contains xs n
has-contains [] n e = absurd cc
has-contains (x ∷ xs) n e = by (x == n) refl e (λ later. has-contains xs n later)
  where
    by : (b : Bool) → (x == n) ≡ b → (b || has xs n) ≡ true → (has xs n ≡ true → Contains xs n) → Contains (x ∷ xs) n
    by true q h rest = let same : x ≡ n = grind (arith, nat_tests) in (0, omega arith, same)
    by false q h rest = contains-later n x xs (rest h)

pub range-has : (n x : ℕ) → x < n → Contains (range_with_len 0 n) x
range-has n x low = (x, omega (arith, low, length-range_with_len 0 n), omega (arith, get_or-range_with_len 0 n x x low))

pub in-range : (n x : ℕ) → Contains (range_with_len 0 n) x → x < n
in-range n x h = omega (arith, h.1, h.2, length-range_with_len 0 n, get_or-range_with_len 0 n h.0 x (omega (arith, h.1, length-range_with_len 0 n)))

-- ---- calls

pub calls-length : (ls : List PlainLambda) → length (calls_of ls) ≡ length ls
calls-length ls = length-map ls (callees (length ls))

calls-past : (ls : List PlainLambda) (j k : ℕ) → length ls ≤ j → Calls (calls_of ls) j k → ⊥
calls-past ls j k past h = contains-none k (subst (λ xs. Contains xs k) (get_or_past (calls_of ls) j [] (omega (arith, calls-length ls))) h)

-- each function of the lists of calls is there
pub calls-known : (ls : List PlainLambda) → AllKnown (calls_of ls)
calls-known ls j k h =
    elim (cases_lt j (length ls)) [
      | inl inside ↦
          let in_row = subst (λ xs. Contains xs k) (get_or-map (callees (length ls)) ls j no_lambda [] inside) h in
          let low = in-range (length ls) k (filtered (has (region_calls (get_or ls j no_lambda).body)) (range_with_len 0 (length ls)) k in_row).0 in
          omega (arith, low, calls-length ls)
      | inr past ↦ absurd (calls-past ls j k past h)
    ]
