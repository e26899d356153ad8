use Rattle.r_edit.proofs.lemmas.Size as size
use Rattle.r_edit.proofs.steps.resized_lambdas_are_no_larger.Goals as goal

pub returns : goal.returns
returns c = size.resized_lambdas_are_no_larger
