use Rattle.c_interp.proofs.Performed.{written_moved}
use Rattle.c_interp.proofs.perform.written.Goals as goal

pub returns-in-Some : goal.returns-in-Some
returns-in-Some c = λ n.
    written_moved c.args.program.now.typed.now n c.args.machine.now c.set_slot.new.slots c.args.e.now c.in-Some.w c.requires.normal (c.in-Some.ensures n) c.set_slot.ensures
