use Rattle.std.proofs.Common.{◌≡◌, drop}
use Rattle.g_graph.specs.WellFormed.{all_of}
use Rattle.r_invert.specs.Rule.{is_output_of}
use Rattle.r_invert.proofs.form.all_outputs.Given as goal

abbrev pub invariant-loop-origin : goal.invariant-loop-origin
invariant-loop-origin l = all_of (is_output_of l.id) (drop l.origin-index l.origins) ≡ all_of (is_output_of l.id) l.origins
