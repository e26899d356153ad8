use Rattle.r_edit.proofs.lemmas.Steps.{no_step_is_a_step}
use Rattle.r_edit.proofs.lemmas.Steps as steps
use Rattle.r_edit.proofs.steps.steps_compose.Goals as goal

pub returns-clause-itself : goal.returns-clause-itself
returns-clause-itself c = no_step_is_a_step

pub returns-clause-next : goal.returns-clause-next
returns-clause-next c = steps.steps_compose
