-- What holds before each turn of the loops of `start_of_moves`.
use Rattle.std.proofs.Common.{◌≡◌, ◌≤◌, ◌<◌, ℕ, true, map, slice_get}
use Rattle.s_linear.specs.Views.{line_of}
use Rattle.a_share.specs.Walking.{is_done}
use Rattle.a_share.proofs.walk.start_of_moves.Given as goal

abbrev pub decreases-moves : goal.decreases-moves
decreases-moves l = l.start

abbrev pub invariant-moves : goal.invariant-moves
invariant-moves l = record {
  bound : l.start ≤ l.end;
  within : (k : ℕ) → l.start ≤ k → k < l.end → is_done (slice_get (map line_of l.lines) k) ≡ true;
}
