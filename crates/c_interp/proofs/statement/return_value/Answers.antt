use Rattle.c_interp.proofs.AtOnce.{return_known_step}
use Rattle.c_interp.proofs.statement.return_value.Goals as goal

pub returns-in-Some : goal.returns-in-Some
returns-in-Some c = λ n.
    let p = c.args.program.now.typed.now in
    return_known_step p n c.return_known.result c.args.machine.now c.return_known.new.machine c.args.e.now c.in-Some.v (c.in-Some.ensures n) (c.return_known.ensures p n)
