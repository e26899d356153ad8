use Rattle.std.proofs.Common.{◌≡◌, ◌-◌, ◌≤◌, vec_len}
use Rattle.cc_io.specs.Source.{prepend}
use Rattle.cc_io.proofs.load.load_input.Given as goal

abbrev pub invariant-loop-buffer : goal.invariant-loop-buffer
invariant-loop-buffer g l =
    (g.I.Source.left l.initial.input ≡ prepend l.bytes.items (g.I.Source.left l.input))
    × (vec_len l.bytes ≤ l.limit)
    × (g.I.Source.faults l.initial.input ≤ g.I.Source.faults l.input)

abbrev pub decreases-loop-buffer : goal.decreases-loop-buffer
decreases-loop-buffer g l = l.limit - vec_len l.bytes
