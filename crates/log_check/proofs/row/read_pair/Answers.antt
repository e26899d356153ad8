use Rattle.log_check.proofs.Maybe.{on_none}
use Rattle.log_check.proofs.Words.{no_pair_first, no_pair_second}
use Rattle.log_check.proofs.row.read_pair.Goals as goal

pub returns-in_err-before-clause-none : goal.returns-in_err-before-clause-none
returns-in_err-before-clause-none c =
    on_none _ c.from_residual-in_err-before.result
    (λ before after small less.
    no_pair_first c.args.text.now c.in_ok-first.first.now c.in_ok-first.second.now before after c.in_ok-first.ensures.parts c.in_ok-first.ensures.first small
    (c.in_err-before.ensures.none before small))

pub returns-in_err-after-clause-none : goal.returns-in_err-after-clause-none
returns-in_err-after-clause-none c =
    on_none _ c.from_residual-in_err-after.result
    (λ before after small less.
    no_pair_second c.args.text.now c.in_ok-first.first.now c.in_ok-first.second.now before after c.in_ok-first.ensures.parts c.in_ok-first.ensures.first small
    (c.in_err-after.ensures.none after less))
