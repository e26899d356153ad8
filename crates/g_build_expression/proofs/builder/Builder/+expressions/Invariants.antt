use Rattle.std.proofs.Common.{◌≡◌, ◌++◌, ◌+◌, ◌*◌, drop}
use Rattle.c_typed.specs.Typed.{exprs_of, expr_size, exprs_size, place_size}
use Rattle.g_build_def.specs.Expressions.{commas_made, arguments_made}
use Rattle.g_build_expression.specs.Work.{made}
use Rattle.g_build_expression.proofs.builder.Builder.+expressions.Given as goal

abbrev pub decreases-expression : goal.decreases-expression
decreases-expression l = 3 * expr_size l.e.now

abbrev pub decreases-tested : goal.decreases-tested
decreases-tested l = 3 * expr_size l.e.now + 1

abbrev pub decreases-place : goal.decreases-place
decreases-place l = 3 * place_size l.p.now

abbrev pub decreases-logical_and : goal.decreases-logical_and
decreases-logical_and l = 3 * (expr_size l.a.now + expr_size l.b.now) + 2

abbrev pub decreases-logical_or : goal.decreases-logical_or
decreases-logical_or l = 3 * (expr_size l.a.now + expr_size l.b.now) + 2

abbrev pub decreases-conditional : goal.decreases-conditional
decreases-conditional l = 3 * (expr_size l.c.now + expr_size l.a.now + expr_size l.b.now) + 2

abbrev pub decreases-comma : goal.decreases-comma
decreases-comma l = 3 * (exprs_size (exprs_of l.es.now) + expr_size l.last.now) + 2

abbrev pub decreases-compound_assignment : goal.decreases-compound_assignment
decreases-compound_assignment l = 3 * (place_size l.p.now + expr_size l.a.now) + 2

abbrev pub decreases-arguments : goal.decreases-arguments
decreases-arguments l = 3 * exprs_size (exprs_of l.es.now) + 2

abbrev pub invariant-comma-loop-dropped : goal.invariant-comma-loop-dropped
invariant-comma-loop-dropped l =
    made l.self (commas_made (exprs_of (drop l.dropped-index l.es)) l.self.point)
    ≡ made l.initial.self (commas_made (exprs_of l.es) l.initial.self.point)

abbrev pub invariant-arguments-loop-argument : goal.invariant-arguments-loop-argument
invariant-arguments-loop-argument l = record {
  work :
      made l.self (arguments_made (exprs_of (drop l.argument-index l.es)) l.self.point)
      ≡ made l.initial.self (arguments_made (exprs_of l.es) l.initial.self.point);
  value :
      l.inputs.items ++ (arguments_made (exprs_of (drop l.argument-index l.es)) l.self.point).value
      ≡ (arguments_made (exprs_of l.es) l.initial.self.point).value;
}
