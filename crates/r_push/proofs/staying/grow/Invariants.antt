-- So many arguments more.
use Rattle.std.proofs.Common.{◌≡◌}
use Rattle.r_push.specs.Walk.{grown}
use Rattle.r_push.proofs.staying.grow.Given as goal

abbrev pub invariant-loop : goal.invariant-loop
invariant-loop l = l.region ≡ grown l.loops l.counter l.fn.region
