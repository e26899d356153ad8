-- It is known of the functions so far, and of those of which it was known before, whether they are stale.
use Rattle.std.proofs.Common.{◌<◌, ℕ, slice_index}
use Rattle.call_order.specs.Units.{call_lists}
use Rattle.g_pass_work.specs.Ranks.{IsSettled}
use Rattle.g_pass_work.proofs.spread.settle_all.Given as goal

abbrev pub invariant-loop-function : goal.invariant-loop-function
invariant-loop-function l =
    ((e : ℕ) → e < l.function-index → IsSettled (call_lists l.deps) l.changed l.stale (slice_index l.functions e))
    × ((j : ℕ) → IsSettled (call_lists l.deps) l.changed l.initial.stale j → IsSettled (call_lists l.deps) l.changed l.stale j)
