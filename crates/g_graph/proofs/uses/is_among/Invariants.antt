use Rattle.std.proofs.Common.{◌≡◌, drop}
use Rattle.g_graph.specs.Scope.{same_origin}
use Rattle.g_graph.specs.WellFormed.{some_of}
use Rattle.g_graph.proofs.uses.is_among.Given as goal

abbrev pub invariant-loop-other : goal.invariant-loop-other
invariant-loop-other l = some_of (same_origin l.origin) (drop l.other-index l.origins) ≡ some_of (same_origin l.origin) l.origins
