-- The byte is none of those so far.
use Rattle.std.specs.Prelude.{slice_index}
use Rattle.std.proofs.Common.{◌≢◌, ◌<◌, ℕ}
use Rattle.cc_script_text.proofs.pieces.cut.Given as goal

-- the byte is none of those so far
abbrev pub invariant-loop-at : goal.invariant-loop-at
invariant-loop-at l = (k : ℕ) → k < l.at → slice_index l.text k ≢ l.byte
