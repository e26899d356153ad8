use Rattle.s_select_keeps.proofs.Starts.{main_is_called, main_exits}
use Rattle.s_select_keeps.proofs.laws.programs_start.Goals as goal

pub returns-clause-called : goal.returns-clause-called
returns-clause-called c = main_is_called

pub returns-clause-exits : goal.returns-clause-exits
returns-clause-exits c = main_exits
