use Rattle.std.proofs.Common.{◌≡◌, drop}
use Rattle.g_graph.specs.WellFormed.{all_of}
use Rattle.r_push.specs.Rule.{names_argument}
use Rattle.r_push.proofs.find.all_arguments.Given as goal

abbrev pub invariant-loop-origin : goal.invariant-loop-origin
invariant-loop-origin l = all_of names_argument (drop l.origin-index l.origins) ≡ all_of names_argument l.origins
