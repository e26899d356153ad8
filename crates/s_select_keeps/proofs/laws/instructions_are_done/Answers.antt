use Rattle.s_select_keeps.proofs.Table.{instr_is_done}
use Rattle.s_select_keeps.proofs.laws.instructions_are_done.Goals as goal

pub returns : goal.returns
returns c = instr_is_done c.templates_store.ensures c.templates_clear.ensures
