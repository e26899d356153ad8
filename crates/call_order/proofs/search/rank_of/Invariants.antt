use Rattle.std.proofs.Common.{◌≡◌, ℕ, ◌<◌, ◌≤◌, ◌⊎◌, length, slice_index}
use Rattle.call_order.specs.Units.{call_lists, Calls}
use Rattle.call_order.specs.Search.{above, stage_of}
use Rattle.call_order.proofs.search.rank_of.Given as goal

abbrev pub invariant-loop-member : goal.invariant-loop-member
invariant-loop-member l =
    ((a k : ℕ) → a < l.member-index → Calls (call_lists l.calls) (slice_index l.members a) k → above (stage_of l.stages k) ≤ l.rank)
    × ((l.rank ≡ 0)
    ⊎ ((a : ℕ) × (k : ℕ) × (a < length l.members) × Calls (call_lists l.calls) (slice_index l.members a) k × (l.rank ≡ above (stage_of l.stages k))))
