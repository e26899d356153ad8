use Rattle.std.proofs.Common.{◌≡◌, drop}
use Rattle.g_graph.specs.Plain.{nodes_of}
use Rattle.r_pull.specs.Edit.{user_index}
use Rattle.r_pull.proofs.fill.user_index.Given as goal

abbrev pub invariant-loop-i : goal.invariant-loop-i
invariant-loop-i l = user_index l.id l.i (nodes_of (drop l.i l.nodes)) ≡ user_index l.id 0 (nodes_of l.nodes)
