use Rattle.val_core.specs.declared.values.Value.TheVariants.{Num}
use Rattle.c_interp.proofs.ExprSteps.{give_step}
use Rattle.c_interp.proofs.expression.give_it.Goals as goal

pub returns : goal.returns
returns c = λ p n. give_step p n c.give_value.result c.args.machine.now c.give_value.new.machine (Num c.args.w) (c.give_value.ensures p n)
