-- The callee that was found.
use Rattle.std.proofs.Common.{Some, ap, ◌∙◌}
use Rattle.std.specs.Arc.{arc_value}
use Rattle.r_rule.specs.Optimised.{PlainOptimised}
use Rattle.r_inline.proofs.Numbered.{lambda_is}
use Rattle.r_inline.proofs.callees.lambda_at.Goals as goal

pub returns-clause-callee : goal.returns-clause-callee
returns-clause-callee c =
    let found = c.in_ok-callee.ensures.lookup in
    ap (λ (k : PlainOptimised). Some k.lambda) (c.behind-callee.view_is ∙ c.deref.ensures) ∙ lambda_is arc_value c.args.callees.now c.args.at c.in_ok-callee.callee.now found.1 found.3.0
