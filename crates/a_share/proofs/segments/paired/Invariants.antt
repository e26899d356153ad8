-- What holds before each turn of the loops of `paired`.
use Rattle.std.proofs.Common.{◌≡◌, ◌≤◌, ◌-◌, ◌++◌, length, drop}
use Rattle.a_share.specs.Pairs.{pairs}
use Rattle.a_share.proofs.segments.paired.Given as goal

abbrev pub invariant-loop-k : goal.invariant-loop-k
invariant-loop-k l = record {
  low : l.k ≤ length l.bounds;
  pairs : l.segments.items ++ pairs l.end (drop l.k l.bounds) ≡ pairs l.end l.bounds;
}

abbrev pub decreases-loop-k : goal.decreases-loop-k
decreases-loop-k l = length l.bounds - l.k
