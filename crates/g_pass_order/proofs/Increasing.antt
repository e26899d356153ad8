-- Increasing lists are what they contain, and so are the lists of the functions that lambdas call.
use Rattle.std.proofs.Common.{◌≡◌, ◌<◌, ◌+◌, ℕ, suc, List, [], ◌∷◌, slice_index_or, Contains, refl, sym, inl, inr, ◌⊎◌, arith}
use Rattle.std.specs.Prelude.{◌↔◌}
use Rattle.std.specs.List.{range_with_len, AllPairs}
use Rattle.std.specs.List.Sorted.{IsStrictlyIncreasing}
use Rattle.std.proofs.lemmas.List.FromFn.{length-range_with_len, get_or-range_with_len}
use Rattle.std.proofs.lemmas.List.Kept.{AllPairs-from_increasing, IsStrictlyIncreasing-filter}
use Rattle.g_graph.specs.Plain.{PlainLambda}
use Rattle.g_pass_order.specs.Calls.{region_calls, has, callees}
use Rattle.g_pass_order.proofs.lemmas.Contained.{contains-none, contains-later, contains-either, filtered, passing, has-is, has-contains, range-has}

-- ---- increasing lists

contains-first : {A : Type 0} (x : A) (xs : List A) → Contains (x ∷ xs) x
contains-first x xs = (0, omega arith, refl)

above : (x : ℕ) (xs : List ℕ) → AllPairs (λ a b. a < b) (x ∷ xs) → (n : ℕ) → Contains xs n → x < n
above x xs pairs n h =
    let more : x < slice_index_or xs h.0 n = pairs 0 (suc h.0) n (omega arith) (omega (arith, h.1)) in
    omega (arith, more, h.2)

later-pairs : (x : ℕ) (xs : List ℕ) → AllPairs (λ a b. a < b) (x ∷ xs) → AllPairs (λ a b. a < b) xs
later-pairs x xs pairs i j d lt within = pairs (suc i) (suc j) d (omega arith) (omega arith)

same-increasing : (xs ys : List ℕ) → AllPairs (λ a b. a < b) xs → AllPairs (λ a b. a < b) ys → ((n : ℕ) → Contains xs n → Contains ys n) → ((n : ℕ) → Contains ys n → Contains xs n) → xs ≡ ys
same-increasing [] [] p q f g = refl
same-increasing [] (y ∷ ys) p q f g = absurd (contains-none y (g y (contains-first y ys)))
same-increasing (x ∷ xs) [] p q f g = absurd (contains-none x (f x (contains-first x xs)))
same-increasing (x ∷ xs) (y ∷ ys) p q f g =
    let head = heads (contains-either x y ys (f x (contains-first x xs))) (contains-either y x xs (g y (contains-first y ys))) in
    let rest =
    same-increasing xs ys (later-pairs x xs p) (later-pairs y ys q)
    (λ n h. tails n (above x xs p n h) head (contains-either n y ys (f n (contains-later n x xs h))))
    (λ n h. tails' n (above y ys q n h) head (contains-either n x xs (g n (contains-later n y ys h)))) in
    cc
  where
    heads : (y ≡ x) ⊎ Contains ys x → (x ≡ y) ⊎ Contains xs y → x ≡ y
    heads (inl e) other = sym e
    heads (inr h) (inl e) = e
    heads (inr h) (inr k) = absurd (omega (arith, above y ys q x h, above x xs p y k))

    tails : (n : ℕ) → x < n → x ≡ y → (y ≡ n) ⊎ Contains ys n → Contains ys n
    tails n low same (inl e) = absurd (omega (arith, low, same, e))
    tails n low same (inr h) = h

    tails' : (n : ℕ) → y < n → x ≡ y → (x ≡ n) ⊎ Contains xs n → Contains xs n
    tails' n low same (inl e) = absurd (omega (arith, low, same, e))
    tails' n low same (inr h) = h

range-increasing : (n : ℕ) → IsStrictlyIncreasing (range_with_len 0 n)
range-increasing n k within =
    let long = length-range_with_len 0 n in
    omega (arith, get_or-range_with_len 0 n k 0 (omega (arith, within, long)), get_or-range_with_len 0 n (k + 1) 0 (omega (arith, within, long)))

-- ---- the functions that a lambda calls

pub callees_are : (n : ℕ) (l : PlainLambda) (found : List ℕ) → IsStrictlyIncreasing found → ((f : ℕ) → Contains found f ↔ Contains (region_calls l.body) f) →
    ((f : ℕ) → Contains (region_calls l.body) f → f < n) → found ≡ callees n l
callees_are n l found increasing same known =
    let calls = region_calls l.body in
    same-increasing found (callees n l) (AllPairs-from_increasing found increasing)
    (AllPairs-from_increasing (callees n l) (IsStrictlyIncreasing-filter (has calls) (range_with_len 0 n) (range-increasing n)))
    (λ f h. let called = (same f).0 h in passing (has calls) (range_with_len 0 n) f (range-has n f (known f called)) (has-is calls f called))
    (λ f h. (same f).1 (has-contains calls f (filtered (has calls) (range_with_len 0 n) f h).1))
