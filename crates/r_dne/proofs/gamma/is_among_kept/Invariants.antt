use Rattle.std.proofs.Common.{◌≡◌, drop}
use Rattle.g_graph.specs.declared.op.Origin.TheVariants.{Arg}
use Rattle.g_graph.specs.Scope.{same_origin}
use Rattle.g_graph.specs.WellFormed.{some_of}
use Rattle.r_edit.specs.Places.{kept}
use Rattle.r_dne.proofs.gamma.is_among_kept.Given as goal

abbrev pub invariant-loop-i : goal.invariant-loop-i
invariant-loop-i l = some_of (same_origin (Arg l.index)) (kept (drop l.i l.exits) (drop l.i l.results)) ≡ some_of (same_origin (Arg l.index)) (kept l.exits l.results)
