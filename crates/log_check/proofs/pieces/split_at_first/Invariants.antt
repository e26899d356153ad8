use Rattle.std.specs.Prelude.{slice_index}
use Rattle.std.proofs.Common.{◌≢◌, ◌<◌, ℕ}
use Rattle.log_check.proofs.pieces.split_at_first.Given as goal

-- the byte is none of those so far
abbrev pub invariant-loop-at : goal.invariant-loop-at
invariant-loop-at l = (k : ℕ) → k < l.at → slice_index l.text k ≢ l.byte
