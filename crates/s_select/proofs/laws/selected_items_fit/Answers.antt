use Rattle.s_select.proofs.lemmas.Selected.{selected_items_fit}
use Rattle.s_select.proofs.laws.selected_items_fit.Goals as goal

pub returns : goal.returns
returns c = selected_items_fit
