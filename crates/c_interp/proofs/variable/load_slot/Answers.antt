use Rattle.std.proofs.Common.{◌∙◌, ap}
use Rattle.c_interp_answer.specs.TaskViews.{slots_of}
use Rattle.c_interp.specs.Steps.{slot_read}
use Rattle.std.specs.Prelude.{slice_get}
use Rattle.c_interp.proofs.StmtSteps.{slot_step}
use Rattle.c_interp.proofs.variable.load_slot.Goals as goal

pub returns : goal.returns
returns c = λ p n t. slot_step p n c.give.result c.args.machine.now c.give.new.machine c.args.slot t c.slot_read-value.result (c.slot_read-value.ensures ∙ ap (λ l. slot_read (slice_get (slots_of l) c.args.slot)) c.deref.ensures.value) (c.give.ensures p n)
