use Rattle.c_interp_def.specs.Configurations.{state_of}
use Rattle.c_interp_def.specs.ExprTasks.{context}
use Rattle.c_interp.specs.Machines.{config_of}
use Rattle.c_interp.proofs.Steps.{calls_in}
use Rattle.c_interp.proofs.known.known.Goals as goal

pub returns : goal.returns
returns c = λ n k i held.
    let x = config_of c.args.machine.now k i in
    c.answer.ensures (calls_in c.args.machine.now) (context c.args.program.now.typed.now n x) (state_of x) (c.scope_of.ensures n k i held)
