use Rattle.log_check.proofs.Maybe.{on_none}
use Rattle.log_check.proofs.LineEnds.{no_head_line}
use Rattle.log_check.proofs.line.first_head.Goals as goal

pub returns-in_err-head-clause-none : goal.returns-in_err-head-clause-none
returns-in_err-head-clause-none c =
    on_none _ c.from_residual-in_err-head.result
    (λ r after head.
    no_head_line c.args.text.now c.in_ok-line.line.now c.in_ok-line.rest.now r after c.in_ok-line.ensures.parts c.in_ok-line.ensures.first head
    (c.in_err-head.ensures.none r head))
