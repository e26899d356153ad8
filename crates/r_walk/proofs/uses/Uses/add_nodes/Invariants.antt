-- What is added, with what is left, makes the whole.
use Rattle.std.proofs.Common.{◌≡◌, ◌||◌, ◌^◌, ◌<◌, ℕ, drop}
use Rattle.g_graph.specs.declared.op.Origin.TheVariants.{Out}
use Rattle.g_graph.specs.Plain.{nodes_of}
use Rattle.r_walk.specs.Walk.{is_in, inputs_of_nodes}
use Rattle.r_walk.specs.Around.{uses_in}
use Rattle.r_walk.proofs.uses.Uses.add_nodes.Given as goal

abbrev pub invariant-loop-node : goal.invariant-loop-node
invariant-loop-node l =
    (n p : ℕ) → p < 2 ^ 32 →
    (uses_in l.self n p || is_in (inputs_of_nodes (nodes_of (drop l.node-index l.nodes))) (Out n p)) ≡ (uses_in l.fn.self n p || is_in (inputs_of_nodes (nodes_of l.nodes)) (Out n p))
