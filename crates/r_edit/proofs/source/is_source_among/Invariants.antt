use Rattle.std.proofs.Common.{◌≡◌, drop}
use Rattle.g_graph.specs.Scope.{same_origin}
use Rattle.g_graph.specs.WellFormed.{some_of}
use Rattle.r_edit.specs.Origins.{origin_of}
use Rattle.r_edit.proofs.source.is_source_among.Given as goal

abbrev pub invariant-loop-origin : goal.invariant-loop-origin
invariant-loop-origin l = some_of (same_origin (origin_of l.source)) (drop l.origin-index l.origins) ≡ some_of (same_origin (origin_of l.source)) l.origins
