use Rattle.s_select_keeps.proofs.lemmas.LaidFunctions.{laid_program_can_run, laid_program_starts}
use Rattle.s_select_keeps.proofs.lemmas.SelectedFunctions.{selected_can_run}
use Rattle.s_select_keeps.proofs.laws.laid_programs_can_run.Goals as goal

pub returns-clause-selected : goal.returns-clause-selected
returns-clause-selected c = selected_can_run

pub returns-clause-can_run : goal.returns-clause-can_run
returns-clause-can_run c = laid_program_can_run

pub returns-clause-starts : goal.returns-clause-starts
returns-clause-starts c = laid_program_starts
