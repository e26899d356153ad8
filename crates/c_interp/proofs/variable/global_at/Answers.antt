use Rattle.std.proofs.Common.{◌∙◌, ap}
use Rattle.val_core.specs.Objects.{address_in}
use Rattle.c_interp.proofs.StmtSteps.{global_step}
use Rattle.c_interp.proofs.variable.global_at.Goals as goal

pub returns : goal.returns
returns c = λ n. global_step c.args.program.now.typed.now n c.give.result c.args.machine.now c.give.new.machine c.args.number c.global.result
    (c.global.ensures ∙ ap (λ l. address_in 0 l c.args.number) c.requires.laid.globals) (c.give.ensures c.args.program.now.typed.now n)
