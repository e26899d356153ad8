-- A step that remembers the end of the input is a step.
use Rattle.std.proofs.Common.{ℕ, Option, Some, None, ap}
use Rattle.rv_machine.specs.Machine.{Effect, next, stop, put, get}
use Rattle.rv_machine.specs.Port.{Port, IsDoneAt, IsReceived}
use Rattle.rv_machine.specs.Run.{Hart}
use Rattle.rv_machine.specs.Steps.{Streams, IsDone, IsTaken}

abbrev streams : Port → Streams
streams p = record { held = p.held; left = p.left }

taken_of : (taken : Option ℕ) (before after : Port) → IsReceived taken before after → IsTaken taken before.left after.left
taken_of (Some byte) before after h = h.0
taken_of None before after h = (h.0, h.1)

pub done_of : (effect : Effect) (h : Hart) (before after : Port) → IsDoneAt effect h before after → IsDone effect h (streams before) (streams after)
done_of (next s) h before after d = (d.0, ap streams d.1)
done_of (stop e) h before after d = d
done_of (put byte s) h before after d = (d.0, ap (λ p. p.held) d.1, ap (λ p. p.left) d.1)
done_of (get received) h before after d = (d.0, d.1, d.2, taken_of d.0 before after d.3)
