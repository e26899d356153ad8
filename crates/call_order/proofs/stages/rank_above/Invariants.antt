use Rattle.std.proofs.Common.{◌≡◌, ℕ, ◌<◌, ◌≤◌, ◌⊎◌, Contains, slice_index}
use Rattle.call_order.specs.Search.{above, stage_of}
use Rattle.call_order.proofs.stages.rank_above.Given as goal

abbrev pub invariant-loop-callee : goal.invariant-loop-callee
invariant-loop-callee l =
    (l.rank ≤ l.top) × ((e : ℕ) → e < l.callee-index → above (stage_of l.stages (slice_index l.callees e)) ≤ l.top)
    × ((l.top ≡ l.rank) ⊎ ((k : ℕ) × Contains l.callees k × (l.top ≡ above (stage_of l.stages k))))
