use Rattle.std.proofs.Common.{◌≡◌, replicate}
use Rattle.g_graph.specs.declared.op.Kind.TheVariants.{Value}
use Rattle.g_build.proofs.body.argument_kinds.Given as goal

abbrev pub invariant-loop-i : goal.invariant-loop-i
invariant-loop-i l = l.kinds.items ≡ replicate l.i Value
