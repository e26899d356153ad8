use Rattle.std.proofs.Common.{◌∙◌, ap}
use Rattle.std.specs.Prelude.{slice_get}
use Rattle.c_interp_answer.specs.TaskViews.{slots_of}
use Rattle.c_interp.specs.Steps.{slot_read}
use Rattle.c_interp.proofs.known.slot_value.Goals as goal

pub returns : goal.returns
returns c = c.slot_read.ensures ∙ ap (λ l. slot_read (slice_get (slots_of l) c.args.slot)) c.as_slice.ensures.value
