-- What is noted, with what is left, makes the whole.
use Rattle.std.proofs.Common.{◌≡◌, drop}
use Rattle.g_graph.specs.Plain.{NodeTrees, nodes_of}
use Rattle.g_graph.specs.Splice.{joined_nodes}
use Rattle.r_walk.specs.Around.{AreWords}
use Rattle.r_walk.proofs.words.Words.note_all.Given as goal

abbrev pub invariant-loop-node : goal.invariant-loop-node
invariant-loop-node l =
    (before : NodeTrees) → AreWords l.fn.self before →
    (written : NodeTrees) × AreWords l.self written × (joined_nodes written (nodes_of (drop l.node-index l.nodes)) ≡ joined_nodes before (nodes_of l.nodes))
