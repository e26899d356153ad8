use Rattle.c_interp_def.proofs.CallProofs.{call-is-cut, call-enters}
use Rattle.c_interp_def.proofs.laws.calls_enter.Goals as goal

pub returns : goal.returns
returns c = record { cut = call-is-cut; enters = call-enters }
