-- The bytes so far are equal.
use Rattle.std.proofs.Common.{◌≡◌, ◌<◌, ◌≤◌, ℕ, length, slice_get}
use Rattle.log_check.proofs.compare.first_difference.Given as goal

-- both have the same bytes so far
abbrev pub invariant-loop-at : goal.invariant-loop-at
invariant-loop-at l = (l.at ≤ length l.file) × ((k : ℕ) → k < l.at → slice_get l.image k ≡ slice_get l.file k)
