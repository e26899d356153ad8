-- What is added, with what is left, makes the whole.
use Rattle.std.proofs.Common.{◌≡◌, ◌++◌, drop}
use Rattle.r_push.specs.Walk.{outputs_of_left}
use Rattle.r_push.proofs.staying.add_outputs.Given as goal

abbrev pub invariant-loop-node : goal.invariant-loop-node
invariant-loop-node l = l.inputs.items ++ outputs_of_left (drop l.node-index l.nodes) ≡ l.fn.inputs.items ++ outputs_of_left l.nodes
