-- The depths of the functions so far are found.
use Rattle.cc_view.specs.Turns.{IsFilled}
use Rattle.cc_view.proofs.finding.filled.Given as goal

abbrev pub invariant-loop-turn : goal.invariant-loop-turn
invariant-loop-turn l = IsFilled l.lambdas l.frames l.turns l.turn-index l.depths.items
