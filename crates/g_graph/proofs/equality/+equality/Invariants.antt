use Rattle.std.proofs.Common.{◌≡◌, take, length}
use Rattle.g_graph.proofs.equality.+equality.Given as goal

abbrev pub invariant-equal_node_lists-loop-i : goal.invariant-equal_node_lists-loop-i
invariant-equal_node_lists-loop-i l = (take l.i l.a ≡ take l.i l.b) × (length l.a ≡ length l.b)

abbrev pub invariant-equal_region_lists-loop-i : goal.invariant-equal_region_lists-loop-i
invariant-equal_region_lists-loop-i l = (take l.i l.a ≡ take l.i l.b) × (length l.a ≡ length l.b)
