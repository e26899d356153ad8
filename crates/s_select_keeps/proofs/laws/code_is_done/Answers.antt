use Rattle.s_select_keeps.proofs.Bodies as lemma
use Rattle.s_select_keeps.proofs.laws.code_is_done.Goals as goal

pub returns : goal.returns
returns c = lemma.code_is_done c.instructions_are_done.ensures c.store_keeps_blocks.ensures c.clear_keeps_blocks.ensures
