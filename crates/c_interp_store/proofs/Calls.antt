-- The numbers of the blocks of calls.
use Rattle.std.proofs.Common.{◌≡◌, ℕ, zero, suc, ◌+◌, ◌≤◌, ◌++◌, true, List, [], ◌∷◌, length, refl, ap, ◌∙◌, arith}
use Rattle.val_core.specs.Numbers.{numbers_from}
use Rattle.c_interp_store.specs.Ascending.{ascends}
use Rattle.c_interp_store.specs.Holding.{Opened, numbers_of, AreApart}
use Rattle.c_interp_store.proofs.Ascending.{AreBelow, ascends_append, numbers_ascend}

pub below_more : (low high : ℕ) (ns : List ℕ) → low ≤ high → AreBelow low ns → AreBelow high ns
below_more low high [] le below = tt
below_more low high (n ∷ ns) le below = (omega (arith, below.0), below_more low high ns le below.1)

below_append : (bound : ℕ) (ns ms : List ℕ) → AreBelow bound ns → AreBelow bound ms → AreBelow bound (ns ++ ms)
below_append bound [] ms h k = k
below_append bound (n ∷ ns) ms h k = (h.0, below_append bound ns ms h.1 k)

pub numbers_below : (bound first count : ℕ) → first + count ≤ bound → AreBelow bound (numbers_from first count)
numbers_below bound first zero le = tt
numbers_below bound first (suc n) le = (omega arith, numbers_below bound (suc first) n (omega arith))

pub numbers_more : (first count : ℕ) → numbers_from first (suc count) ≡ numbers_from first count ++ (first + count) ∷ []
numbers_more first zero = ap (λ n. n ∷ []) (omega arith)
numbers_more first (suc n) = ap (λ ns. first ∷ ns) (numbers_more (suc first) n ∙ ap (λ k. numbers_from (suc first) n ++ k ∷ []) (omega arith))

pub numbers_length : (first count : ℕ) → length (numbers_from first count) ≡ count
numbers_length first zero = refl
numbers_length first (suc n) = ap suc (numbers_length (suc first) n)

pub apart_more : (low high : ℕ) (calls : List Opened) → low ≤ high → AreApart calls low → AreApart calls high
apart_more low high [] le apart = tt
apart_more low high (o ∷ os) le apart = (omega (arith, apart.0), apart.1)

pub calls_below : (bound : ℕ) (calls : List Opened) → AreApart calls bound → AreBelow bound (numbers_of calls)
calls_below bound [] apart = tt
calls_below bound (o ∷ os) apart =
    below_append bound (numbers_of os) (numbers_from o.first o.count) (below_more o.first bound (numbers_of os) (omega (arith, apart.0)) (calls_below o.first os apart.1))
    (numbers_below bound o.first o.count apart.0)

pub calls_ascend : (bound : ℕ) (calls : List Opened) → AreApart calls bound → ascends (λ n. n) 0 (numbers_of calls) ≡ true
calls_ascend bound [] apart = refl
calls_ascend bound (o ∷ os) apart =
    ascends_append 0 o.first (numbers_of os) (numbers_from o.first o.count) (calls_ascend o.first os apart.1) (calls_below o.first os apart.1) (omega arith) (numbers_ascend o.first o.count)
