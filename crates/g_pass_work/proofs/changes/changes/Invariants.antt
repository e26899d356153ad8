-- It is known of the functions so far whether they have changed.
use Rattle.std.proofs.Common.{◌≡◌, ◌<◌, ℕ, true, false, length, slice_index_or}
use Rattle.std.specs.Prelude.{◌↔◌}
use Rattle.call_order.specs.Units.{call_lists}
use Rattle.g_pass_work.specs.Stale.{IsUnchanged}
use Rattle.g_pass_work.proofs.changes.changes.Given as goal

abbrev pub invariant-loop-function : goal.invariant-loop-function
invariant-loop-function l =
    (length l.changed.items ≡ l.function)
    × ((j : ℕ) → j < l.function → (slice_index_or l.changed.items j true ≡ false) ↔ IsUnchanged l.old (call_lists l.old_deps) l.new (call_lists l.deps) j)
