use Rattle.std.proofs.Common.{◌≡◌}
use Rattle.g_graph.specs.declared.op.Origin.TheVariants.{Arg}
use Rattle.r_edit.specs.Origins.{origins_from}
use Rattle.r_edit.proofs.origins.arguments.Given as goal

abbrev pub invariant-loop-i : goal.invariant-loop-i
invariant-loop-i l = l.origins.items ≡ origins_from Arg 0 l.i
