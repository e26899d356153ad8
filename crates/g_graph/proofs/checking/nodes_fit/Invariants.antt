use Rattle.std.proofs.Common.{◌≡◌, [], take, drop}
use Rattle.g_graph.specs.Plain.{nodes_of}
use Rattle.g_graph.specs.Scope.{each_node}
use Rattle.g_graph.specs.WellFormed.{node_fits}
use Rattle.g_graph.proofs.checking.nodes_fit.Given as goal

abbrev pub invariant-loop-i : goal.invariant-loop-i
invariant-loop-i l =
    each_node (node_fits l.objects l.args) (take l.i l.nodes) (nodes_of (drop l.i l.nodes)) ≡ each_node (node_fits l.objects l.args) [] (nodes_of l.nodes)
