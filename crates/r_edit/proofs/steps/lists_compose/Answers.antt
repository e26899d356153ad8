use Rattle.r_edit.proofs.Returns.{complete_lists_return}
use Rattle.r_edit.proofs.lemmas.Steps.{lists_stand_for_themselves}
use Rattle.r_edit.proofs.lemmas.Steps as steps
use Rattle.r_edit.proofs.steps.lists_compose.Goals as goal

pub returns-clause-itself : goal.returns-clause-itself
returns-clause-itself c = lists_stand_for_themselves

pub returns-clause-next : goal.returns-clause-next
returns-clause-next c = steps.lists_compose

pub returns-clause-calls : goal.returns-clause-calls
returns-clause-calls c = complete_lists_return
