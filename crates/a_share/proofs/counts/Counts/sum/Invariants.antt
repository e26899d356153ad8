-- What holds before each turn of the loops of `sum`.

use Rattle.a_share.specs.Counts.{between}
use Rattle.a_share.proofs.Summing.{IsSumming}
use Rattle.a_share.proofs.counts.Counts.sum.Given as goal

abbrev pub invariant-loop-left : goal.invariant-loop-left
invariant-loop-left l = IsSumming l.self.sums.items l.self.size (between l.self l.from l.to) l.sum l.left l.right

abbrev pub decreases-loop-left : goal.decreases-loop-left
decreases-loop-left l = l.right
