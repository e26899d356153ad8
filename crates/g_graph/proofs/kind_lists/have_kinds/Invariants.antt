use Rattle.std.proofs.Common.{◌≡◌, drop, map, length}
use Rattle.g_graph.specs.Plain.{nodes_of}
use Rattle.g_graph.specs.Scope.{known}
use Rattle.g_graph.specs.WellFormed.{are}
use Rattle.g_graph.proofs.kind_lists.have_kinds.Given as goal

abbrev pub invariant-loop-i : goal.invariant-loop-i
invariant-loop-i l =
    (are (map (known l.args (nodes_of l.before)) (drop l.i l.origins)) (drop l.i l.wanted) ≡ are (map (known l.args (nodes_of l.before)) l.origins) l.wanted)
    × (length l.origins ≡ length l.wanted)
