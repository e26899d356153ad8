-- What holds before each turn of the loops of `add_lasts`.
use Rattle.a_share.proofs.Taking.{IsAddingBy}
use Rattle.a_share.proofs.held.add_lasts.Given as goal

abbrev pub invariant-loop-segment : goal.invariant-loop-segment
invariant-loop-segment l = IsAddingBy (λ s. s.last) l.segments l.fn.counts l.counts l.segment-index
