use Rattle.std.proofs.Common.{◌≡◌, drop, length}
use Rattle.g_graph.specs.WellFormed.{same}
use Rattle.g_graph.proofs.kind_lists.same_kinds.Given as goal

abbrev pub invariant-loop-i : goal.invariant-loop-i
invariant-loop-i l = (same (drop l.i l.kinds) (drop l.i l.wanted) ≡ same l.kinds l.wanted) × (length l.kinds ≡ length l.wanted)
