-- The edges to the inputs that are left come after those so far.
use Rattle.std.proofs.Common.{◌≡◌, ◌++◌, drop}
use Rattle.g_text.specs.Edges.{input_edges}
use Rattle.g_text.specs.Drawing.{ends_of}
use Rattle.g_text.proofs.edges.add_inputs.Given as goal

-- what is left comes after what is there
abbrev pub invariant-loop-index : goal.invariant-loop-index
invariant-loop-index l =
    ends_of l.edges.items ++ input_edges l.place l.id l.index (drop l.index l.inputs) ≡ ends_of l.fn.edges.items ++ input_edges l.place l.id 0 l.inputs
