use Rattle.std.proofs.Common.{ℕ, ◌<◌, ◌≤◌, Contains, slice_index}
use Rattle.call_order.proofs.stages.least.Given as goal

abbrev pub invariant-loop-member : goal.invariant-loop-member
invariant-loop-member l =
    Contains l.members l.least × ((a : ℕ) → a < l.member-index → l.least ≤ slice_index l.members a)
