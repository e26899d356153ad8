use Rattle.s_select_keeps.proofs.Memories.{load_is_done}
use Rattle.s_select_keeps.proofs.laws.templates_load.Goals as goal

pub returns : goal.returns
returns c = load_is_done
