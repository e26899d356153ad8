-- What holds before each turn of the loops of `after_writes`.
use Rattle.std.proofs.Common.{◌≡◌, drop}
use Rattle.a_share.specs.Held.{needed_after, remaining, total}
use Rattle.a_share.proofs.held.Held.after_writes.Given as goal

abbrev pub invariant-loop-position : goal.invariant-loop-position
invariant-loop-position l =
    remaining (total (needed_after l.self) (drop l.position-index l.writes)) l.left ≡ remaining (total (needed_after l.self) l.writes) l.number
