-- What holds before each turn of the loops of `add_firsts`.
use Rattle.a_share.proofs.Taking.{IsAddingBy}
use Rattle.a_share.proofs.held.add_firsts.Given as goal

abbrev pub invariant-loop-segment : goal.invariant-loop-segment
invariant-loop-segment l = IsAddingBy (λ s. s.first) l.segments l.fn.counts l.counts l.segment-index
