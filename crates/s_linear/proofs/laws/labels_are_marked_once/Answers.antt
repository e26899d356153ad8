use Rattle.s_linear.proofs.lemmas.Labels.{labels_are_marked_once}
use Rattle.s_linear.proofs.laws.labels_are_marked_once.Goals as goal

pub returns : goal.returns
returns c = labels_are_marked_once
