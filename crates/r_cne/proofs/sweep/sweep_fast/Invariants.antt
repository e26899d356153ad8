-- The sweep at the cursor.
use Rattle.std.proofs.Common.{length}
use Rattle.r_cne.specs.First.{numbers_left}
use Rattle.r_cne.proofs.Going.{Start, IsGoing}
use Rattle.r_cne.proofs.sweep.sweep_fast.Given as goal

abbrev pub invariant-loop-next : goal.invariant-loop-next
invariant-loop-next g l =
    let start : Start = record { nodes = l.fn.arena; steps = l.fn.log.items; looks = l.fn.looks } in IsGoing start l.arena l.log.items l.keys l.next l.looks

abbrev pub decreases-loop-next : goal.decreases-loop-next
decreases-loop-next g l = length (numbers_left l.next l.arena)
