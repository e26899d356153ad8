use Rattle.std.proofs.Common.{◌≡◌}
use Rattle.g_graph.specs.declared.op.Origin.TheVariants.{Out}
use Rattle.r_edit.specs.Origins.{origins_from}
use Rattle.r_edit.proofs.origins.outputs_of.Given as goal

abbrev pub invariant-loop-i : goal.invariant-loop-i
invariant-loop-i l = l.origins.items ≡ origins_from (Out l.id) 0 l.i
