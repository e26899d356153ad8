-- What holds before each turn of the loops of `sums`.

use Rattle.a_share.specs.Counts.{between}
use Rattle.a_share.proofs.Summing.{IsSumming}
use Rattle.a_share.proofs.counts.Counts.sums.Given as goal

abbrev pub invariant-loop-left : goal.invariant-loop-left
invariant-loop-left l = record {
  own : IsSumming l.self.sums.items l.self.size (between l.self l.from l.to) l.own l.left l.right;
  other : IsSumming l.others.sums.items l.self.size (between l.others l.from l.to) l.other l.left l.right;
}

abbrev pub decreases-loop-left : goal.decreases-loop-left
decreases-loop-left l = l.right
