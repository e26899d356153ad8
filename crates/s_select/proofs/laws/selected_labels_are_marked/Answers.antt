use Rattle.s_select.proofs.lemmas.Selected.{selected_labels_are_marked}
use Rattle.s_select.proofs.laws.selected_labels_are_marked.Goals as goal

pub returns : goal.returns
returns c = selected_labels_are_marked c.labels_are_marked_once.ensures c.lines_go_to_labels.ensures
