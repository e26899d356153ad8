-- Every list of lambdas has an order.
use Rattle.std.proofs.Common.{◌<◌, ℕ, List, [], length, get_or, Contains, refl, subst, inl, inr, arith}
use Rattle.std.specs.List.{range_with_len, All}
use Rattle.std.proofs.lemmas.Bool.{cases_lt}
use Rattle.std.proofs.lemmas.List.{length-map, get_or-map, get_or_past}
use Rattle.std.proofs.lemmas.List.Elements.{All-contains, All-filter, All-from_get_or}
use Rattle.std.proofs.lemmas.List.FromFn.{length-range_with_len, get_or-range_with_len}
use Rattle.call_order.specs.Units.{AllKnown}
use Rattle.g_graph.specs.Plain.{PlainLambda}
use Rattle.g_pass_order.specs.Calls.{callees, calls_of, has, no_lambda, outside_calls, region_calls}
use Rattle.g_pass_order.specs.OrderLaws.{OrdersExist}
use Rattle.g_pass_order.proofs.UnitsExist.{units-exist}

callees-low : (n : ℕ) (l : PlainLambda) → All (λ f. f < n) (callees n l)
callees-low n l =
    All-filter (has (region_calls l.body)) (λ f. f < n) (range_with_len 0 n)
    (All-from_get_or (λ f. f < n) (range_with_len 0 n) 0
    (λ i within. let low : i < n = omega (arith, within, length-range_with_len 0 n) in omega (arith, low, get_or-range_with_len 0 n i 0 low)))

calls-known : (ls : List PlainLambda) → AllKnown (calls_of ls)
calls-known ls j k called =
    elim (cases_lt j (length ls)) [
      | inl inside ↦
          let row = subst (λ xs. Contains xs k) (get_or-map (callees (length ls)) ls j no_lambda [] inside) called in
          omega (
            arith,
            All-contains (λ f. f < length ls) (callees (length ls) (get_or ls j no_lambda)) k (callees-low (length ls) (get_or ls j no_lambda)) row,
            length-map ls (callees (length ls)),
          )
      | inr past ↦
          let none = subst (λ xs. Contains xs k) (get_or_past (calls_of ls) j [] (omega (arith, past, length-map ls (callees (length ls))))) called in
          absurd (omega (arith, none.1))
    ]

pub orders_exist : OrdersExist
orders_exist ls =
    let found = units-exist (calls_of ls) (calls-known ls) in (
      found.1,
      outside_calls found.0 (calls_of ls),
      record { unit = found.0; units = found.2; deps_are = refl },
    )
