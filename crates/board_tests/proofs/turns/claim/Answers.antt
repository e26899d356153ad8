use Rattle.std.proofs.Common.{Ok, refl, ap, ◌∙◌}
use Rattle.board_core.specs.declared.event.Event.TheVariants.{Claim}
use Rattle.board_tests.proofs.turns.claim.Goals as goal

pub returns-in-Ok-Job-clause-act : goal.returns-in-Ok-Job-clause-act
returns-in-Ok-Job-clause-act c =
    (Claim _ _, refl, (c.claim.ensures.job c.in-Ok-Job.job (c.in-Ok-Job.is ∙ ap Ok c.in-Ok-Job.field-0-is)).happens)
