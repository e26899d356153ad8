use Rattle.std.proofs.Common.{◌∷◌, ◌++◌, ◌∙◌, [], ap}
use Rattle.c_interp.proofs.BaseSteps.{assigned_step}
use Rattle.c_interp.proofs.variable.set_value.Goals as goal

pub returns : goal.returns
returns c = λ p n. assigned_step p n _ c.args.machine.now c.set_slot.new.slots c.push.new.self c.args.slot c.args.v c.args.given c.requires c.set_slot.ensures (c.in_ok-push.ensures.items ∙ ap (λ z. c.args.machine.now.operands.items ++ z ∷ []) c.unwrap_or.ensures)
