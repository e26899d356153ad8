use Rattle.s_linear.proofs.lemmas.Labels.{lines_go_to_labels}
use Rattle.s_linear.proofs.laws.lines_go_to_labels.Goals as goal

pub returns : goal.returns
returns c = lines_go_to_labels
