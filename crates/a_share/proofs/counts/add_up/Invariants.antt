-- What holds before each turn of the loops of `add_up`.
use Rattle.a_share.proofs.Adding.{IsAdding}
use Rattle.a_share.proofs.counts.add_up.Given as goal

abbrev pub invariant-loop-entry : goal.invariant-loop-entry
invariant-loop-entry l = IsAdding l.fn.sums l.last l.entry l.sums

abbrev pub decreases-loop-entry : goal.decreases-loop-entry
decreases-loop-entry l = l.entry
