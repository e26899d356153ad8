use Rattle.std.proofs.Common.{◌≡◌, ◌+◌, ◌≤◌, drop, map}
use Rattle.std.specs.Prelude.{count_by}
use Rattle.g_graph.specs.Plain.{nodes_of}
use Rattle.g_graph.specs.Scope.{known, is_of}
use Rattle.g_graph.proofs.kind_lists.count_of_origins.Given as goal

abbrev pub invariant-loop-origin : goal.invariant-loop-origin
invariant-loop-origin l =
    (l.count + count_by (is_of l.kind) (map (known l.args (nodes_of l.before)) (drop l.origin-index l.origins)) ≡ count_by (is_of l.kind) (map (known l.args (nodes_of l.before)) l.origins))
    × (l.count ≤ l.origin-index)
