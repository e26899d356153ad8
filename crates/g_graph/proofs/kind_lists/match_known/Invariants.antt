use Rattle.std.proofs.Common.{◌≡◌, ◌≤◌, drop, map, length}
use Rattle.g_graph.specs.Plain.{nodes_of}
use Rattle.g_graph.specs.Scope.{known}
use Rattle.g_graph.specs.WellFormed.{are, kinds_of}
use Rattle.g_graph.proofs.kind_lists.match_known.Given as goal

abbrev pub invariant-loop-origin : goal.invariant-loop-origin
invariant-loop-origin l =
    (are (map (known l.args (nodes_of l.before)) (drop l.index l.origins)) (kinds_of (map (known l.other_args (nodes_of l.other)) (drop l.origin-index l.wanted)))
    ≡ are (map (known l.args (nodes_of l.before)) l.origins) (kinds_of (map (known l.other_args (nodes_of l.other)) l.wanted)))
    × (l.index ≤ length l.origins)
