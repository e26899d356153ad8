use Rattle.g_pass_order.proofs.Orders.{orders_are_ranked, orders_are_unique}
use Rattle.g_pass_order.proofs.laws.orders_are_unique.Goals as goal

pub returns : goal.returns
returns c = record { ranked = orders_are_ranked c.callee_ranks_below.ensures; unique = orders_are_unique c.units_are_unique.ensures }
