use Rattle.s_select_keeps.proofs.Clears.{clear_is_done}
use Rattle.s_select_keeps.proofs.laws.templates_clear.Goals as goal

pub returns : goal.returns
returns c = clear_is_done c.load_after_clear.ensures c.clear_elsewhere.ensures c.clear_keeps_blocks.ensures
