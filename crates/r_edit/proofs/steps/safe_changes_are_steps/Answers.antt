use Rattle.r_edit.proofs.lemmas.Steps.{edits_keep_interface}
use Rattle.r_edit.proofs.lemmas.Steps as steps
use Rattle.r_edit.proofs.steps.safe_changes_are_steps.Goals as goal

pub returns-clause-step : goal.returns-clause-step
returns-clause-step c = steps.safe_changes_are_steps

pub returns-clause-interface : goal.returns-clause-interface
returns-clause-interface c = edits_keep_interface
