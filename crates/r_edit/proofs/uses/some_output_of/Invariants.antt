use Rattle.std.proofs.Common.{◌≡◌, drop}
use Rattle.g_graph.specs.WellFormed.{some_of}
use Rattle.r_edit.specs.Uses.{is_output_of}
use Rattle.r_edit.proofs.uses.some_output_of.Given as goal

abbrev pub invariant-loop-origin : goal.invariant-loop-origin
invariant-loop-origin l = some_of (is_output_of l.id) (drop l.origin-index l.origins) ≡ some_of (is_output_of l.id) l.origins
