use Rattle.s_select_keeps.proofs.MainRuns.{main_runs}
use Rattle.s_select_keeps.proofs.laws.programs_run.Goals as goal

pub returns : goal.returns
returns c = main_runs c.functions_run.ensures
