use Rattle.s_select_keeps.proofs.Pointers.{equal_pointers_is_done}
use Rattle.s_select_keeps.proofs.laws.templates_compare_pointers.Goals as goal

pub returns : goal.returns
returns c = equal_pointers_is_done
