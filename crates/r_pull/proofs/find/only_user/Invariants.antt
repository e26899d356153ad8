use Rattle.std.proofs.Common.{◌≡◌, drop}
use Rattle.g_graph.specs.Plain.{nodes_of}
use Rattle.r_pull.specs.Rule.{only_user}
use Rattle.r_pull.proofs.find.only_user.Given as goal

abbrev pub invariant-loop-i : goal.invariant-loop-i
invariant-loop-i l = only_user l.id (nodes_of (drop l.i l.nodes)) ≡ only_user l.id (nodes_of l.nodes)
