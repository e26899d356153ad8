-- It is known of the functions of the ranks so far whether they are stale.
use Rattle.std.proofs.Common.{◌≡◌, ◌<◌, ℕ, length, slice_index}
use Rattle.call_order.specs.Units.{call_lists}
use Rattle.g_pass_work.specs.Ranks.{IsSettled}
use Rattle.g_pass_work.proofs.spread.spread.Given as goal

abbrev pub invariant-loop-functions : goal.invariant-loop-functions
invariant-loop-functions l =
    (length l.stale.items ≡ length l.deps)
    × ((j : ℕ) → j < length (call_lists l.deps) → slice_index l.ranks j < l.functions-index → IsSettled (call_lists l.deps) l.changed l.stale.items j)
