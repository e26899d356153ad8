use Rattle.std.proofs.Common.{◌≡◌, drop}
use Rattle.g_graph.specs.Plain.{nodes_of}
use Rattle.r_push.specs.Edit.{push_index}
use Rattle.r_push.proofs.push.push_index.Given as goal

abbrev pub invariant-loop-i : goal.invariant-loop-i
invariant-loop-i l = push_index l.values l.id l.i (nodes_of (drop l.i l.nodes)) ≡ push_index l.values l.id 0 (nodes_of l.nodes)
