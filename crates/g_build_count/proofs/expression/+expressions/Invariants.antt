use Rattle.std.proofs.Common.{◌≡◌, ◌+◌, ◌<◌, ◌^◌, drop}
use Rattle.g_graph.specs.Count.{saturated}
use Rattle.c_typed.specs.Typed.{exprs_of}
use Rattle.g_build_count.specs.Values.{exprs_values}
use Rattle.g_build_count.proofs.expression.+expressions.Given as goal

abbrev pub invariant-expr_values-loop-dropped : goal.invariant-expr_values-loop-dropped
invariant-expr_values-loop-dropped l =
    (saturated (l.total + exprs_values l.carried l.scope.objects (exprs_of (drop l.dropped-index l.dropped-items)))
    ≡ saturated (l.initial.total + exprs_values l.carried l.scope.objects (exprs_of l.dropped-items)))
    × (l.total < 2 ^ 64)

abbrev pub invariant-expr_values-loop-argument : goal.invariant-expr_values-loop-argument
invariant-expr_values-loop-argument l =
    (saturated (l.total + exprs_values l.carried l.scope.objects (exprs_of (drop l.argument-index l.argument-items)))
    ≡ saturated (4 + exprs_values l.carried l.scope.objects (exprs_of l.argument-items)))
    × (l.total < 2 ^ 64)
