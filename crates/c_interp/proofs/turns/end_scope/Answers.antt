use Rattle.c_interp.proofs.StmtSteps.{scope_step}
use Rattle.c_interp.proofs.turns.end_scope.Goals as goal

pub returns : goal.returns
returns c = λ p n. scope_step p n _ c.args.machine.now c.truncate.new.self c.args.count c.truncate.ensures.items
