use Rattle.std.proofs.Common.{◌≡◌, drop}
use Rattle.g_graph.specs.WellFormed.{all_of}
use Rattle.r_push.specs.Rule.{is_invariant}
use Rattle.r_push.proofs.find.all_invariant.Given as goal

abbrev pub invariant-loop-origin : goal.invariant-loop-origin
invariant-loop-origin l = all_of (is_invariant l.results) (drop l.origin-index l.origins) ≡ all_of (is_invariant l.results) l.origins
