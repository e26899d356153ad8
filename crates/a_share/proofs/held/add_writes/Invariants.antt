-- What holds before each turn of the loops of `add_writes`.
use Rattle.a_share.proofs.Taking.{IsAddingBy}
use Rattle.a_share.proofs.held.add_writes.Given as goal

abbrev pub invariant-loop-position : goal.invariant-loop-position
invariant-loop-position l = IsAddingBy (λ i. i) l.writes l.fn.counts l.counts l.position-index
