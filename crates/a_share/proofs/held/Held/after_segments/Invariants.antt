-- What holds before each turn of the loops of `after_segments`.
use Rattle.std.proofs.Common.{◌≡◌, drop}
use Rattle.a_share.specs.Held.{remaining, total, written_in}
use Rattle.a_share.proofs.held.Held.after_segments.Given as goal

abbrev pub invariant-loop-segment : goal.invariant-loop-segment
invariant-loop-segment l =
    remaining (total (written_in l.self) (drop l.segment-index l.segments)) l.left ≡ remaining (total (written_in l.self) l.segments) l.number
