use Rattle.s_select_keeps.proofs.Memories.{store_is_done}
use Rattle.s_select_keeps.proofs.laws.templates_store.Goals as goal

pub returns : goal.returns
returns c = store_is_done c.load_after_store.ensures c.load_elsewhere.ensures c.store_keeps_blocks.ensures
