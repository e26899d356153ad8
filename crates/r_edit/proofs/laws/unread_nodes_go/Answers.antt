use Rattle.r_edit.proofs.lemmas.Removal as removal
use Rattle.r_edit.proofs.laws.unread_nodes_go.Goals as goal

pub returns : goal.returns
returns c = removal.unread_nodes_go
