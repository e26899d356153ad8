use Rattle.c_interp_def.proofs.CallProofs.{run-is-tasks}
use Rattle.c_interp_def.proofs.laws.run_is_tasks.Goals as goal

pub returns : goal.returns
returns c = run-is-tasks
