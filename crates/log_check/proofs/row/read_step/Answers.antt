use Rattle.log_check.proofs.Maybe.{on_none}
use Rattle.log_check.proofs.Words.{no_step_rule}
use Rattle.log_check.proofs.row.read_step.Goals as goal

pub returns-in_err-rule-2-clause-none : goal.returns-in_err-rule-2-clause-none
returns-in_err-rule-2-clause-none c =
    on_none _ c.from_residual-in_err-rule-2.result
    (λ s small.
    no_step_rule c.args.line.now c.in_ok-rule.rule.now c.in_ok-rule.node.now s c.in_ok-rule.ensures.parts c.in_ok-rule.ensures.first
    (c.in_err-rule-2.ensures.none s.rule))
