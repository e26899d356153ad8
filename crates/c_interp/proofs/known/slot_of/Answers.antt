use Rattle.std.proofs.Common.{◌∙◌, ap}
use Rattle.c_interp_answer.specs.Answered.{place_slot}
use Rattle.c_interp_answer.specs.TaskViews.{slots_of}
use Rattle.c_interp.proofs.known.slot_of.Goals as goal

pub returns : goal.returns
returns c = c.value_slot.ensures ∙ ap (λ l. place_slot (slots_of l) c.args.p.now) c.as_slice.ensures.value
