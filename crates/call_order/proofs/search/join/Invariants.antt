use Rattle.std.proofs.Common.{◌≡◌, ℕ, ◌<◌, ◌≤◌, length, take, vec_len, slice_index_or}
use Rattle.call_order.specs.declared.search.Group.{Group}
use Rattle.call_order.proofs.search.join.Given as goal

abbrev pub invariant-loop-group : goal.invariant-loop-group
invariant-loop-group l =
    (l.groups.items ≡ take (length l.groups.items) l.initial.groups.items) × (length l.groups.items ≤ length l.initial.groups.items)
    × ((t : ℕ) (d : Group) → length l.groups.items ≤ t → t < length l.initial.groups.items → l.index < (slice_index_or l.initial.groups.items t d).members_from)

abbrev pub decreases-loop-group : goal.decreases-loop-group
decreases-loop-group l = vec_len l.groups
