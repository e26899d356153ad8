use Rattle.std.proofs.Common.{sym, subst}
use Rattle.g_graph.specs.Change.{lambda_changed}
use Rattle.g_graph.specs.WellFormed.{IsWellFormed}
use Rattle.r_edit.specs.Steps.{IsSafeChange}
use Rattle.r_push.proofs.Kept.{push_is_safe, push_stays}
use Rattle.r_push.proofs.Saturated.{limit_of, changed_same}
use Rattle.r_push.proofs.rule.apply.Goals as goal

pub apply-requires-clause-safe : goal.apply-requires-clause-safe
apply-requires-clause-safe c =
    subst (λ h. IsSafeChange h c.args.lambda.now) (sym (limit_of c.values-values.result c.args.node c.args.lambda.now c.values-values.ensures))
    (push_is_safe c.args.node c.args.lambda.now)

pub apply-requires-clause-stays : goal.apply-requires-clause-stays
apply-requires-clause-stays c =
    subst (λ h. IsWellFormed (lambda_changed h c.args.lambda.now)) (sym (limit_of c.values-values.result c.args.node c.args.lambda.now c.values-values.ensures))
    (push_stays c.args.node c.args.lambda.now c.requires.well_formed)

pub returns-clause-ok : goal.returns-clause-ok
returns-clause-ok c = changed_same c.values-values.result c.args.node c.args.lambda.now c.apply.new.lambda c.values-values.ensures c.in_ok-apply.ensures.ok
