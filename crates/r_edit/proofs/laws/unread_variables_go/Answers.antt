use Rattle.r_edit.proofs.lemmas.Variables as variables
use Rattle.r_edit.proofs.laws.unread_variables_go.Goals as goal

pub returns : goal.returns
returns c = variables.unread_variables_go
