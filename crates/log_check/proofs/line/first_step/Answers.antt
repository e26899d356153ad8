use Rattle.log_check.proofs.Maybe.{on_none}
use Rattle.log_check.proofs.LineEnds.{no_step_line}
use Rattle.log_check.proofs.line.first_step.Goals as goal

pub returns-in_err-step-clause-none : goal.returns-in_err-step-clause-none
returns-in_err-step-clause-none c =
    on_none _ c.from_residual-in_err-step.result
    (λ s after small.
    no_step_line c.args.text.now c.in_ok-line.line.now c.in_ok-line.rest.now s after c.in_ok-line.ensures.parts c.in_ok-line.ensures.first small
    (c.in_err-step.ensures.none s small))
