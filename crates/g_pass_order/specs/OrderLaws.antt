-- Laws of orders.
use Rattle.std.specs.Prelude.{ℕ, List}
use Rattle.g_graph.specs.Plain.{PlainLambda}
use Rattle.g_pass_order.specs.Calls.{IsOrder}

-- Every list of lambdas has an order.
abbrev pub OrdersExist : Type 0
OrdersExist = (ls : List PlainLambda) → (ranks : List ℕ) × (deps : List (List ℕ)) × IsOrder ls ranks deps
