use Rattle.c_interp.proofs.Reached.{nothing_ended}
use Rattle.c_interp.proofs.run.interpret.Goals as goal

pub returns-in_err-layouts-clause-ends : goal.returns-in_err-layouts-clause-ends
returns-in_err-layouts-clause-ends g c = nothing_ended c.args.typed.now c.args.bound _ _ _ c.from_residual.result c.from_residual.ensures.0

pub returns-in_err-machine-clause-ends : goal.returns-in_err-machine-clause-ends
returns-in_err-machine-clause-ends g c = nothing_ended c.args.typed.now c.args.bound _ _ _ c.from_residual-in_err-machine.result c.from_residual-in_err-machine.ensures.0
