use Rattle.s_select_keeps.proofs.Exits.{exit_is_done}
use Rattle.s_select_keeps.proofs.laws.templates_exit.Goals as goal

pub returns : goal.returns
returns c = exit_is_done
