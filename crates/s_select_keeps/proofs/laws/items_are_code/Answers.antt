use Rattle.s_select_keeps.proofs.Items.{items_are_cut, words_stand}
use Rattle.s_select_keeps.proofs.laws.items_are_code.Goals as goal

pub returns-clause-cut : goal.returns-clause-cut
returns-clause-cut c = items_are_cut

pub returns-clause-words : goal.returns-clause-words
returns-clause-words c = words_stand
