-- None of the functions so far is stale.
use Rattle.std.proofs.Common.{◌≡◌, ◌<◌, ℕ, true, false, slice_index, slice_index_or}
use Rattle.g_pass_work.proofs.spread.is_none_stale.Given as goal

abbrev pub invariant-loop-function : goal.invariant-loop-function
invariant-loop-function l = (e : ℕ) → e < l.function-index → slice_index_or l.stale (slice_index l.functions e) true ≡ false
