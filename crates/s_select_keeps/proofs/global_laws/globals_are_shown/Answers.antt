use Rattle.s_select_keeps.proofs.Globals.{globals_are_shown, globals_have_blocks}
use Rattle.s_select_keeps.proofs.global_laws.globals_are_shown.Goals as goal

pub returns-clause-shown : goal.returns-clause-shown
returns-clause-shown c = globals_are_shown

pub returns-clause-blocks : goal.returns-clause-blocks
returns-clause-blocks c = globals_have_blocks
