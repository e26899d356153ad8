-- The slots so far are in the list.
use Rattle.std.proofs.Common.{◌≡◌}
use Rattle.g_arena_use.specs.Plain.{in_order}
use Rattle.g_arena_use.proofs.nodes.order_of.Given as goal

abbrev pub invariant-loop-at : goal.invariant-loop-at
invariant-loop-at l = l.order ≡ in_order l.count l.at
