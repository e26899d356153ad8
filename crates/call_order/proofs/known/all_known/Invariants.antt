use Rattle.std.proofs.Common.{ℕ, ◌<◌, length}
use Rattle.call_order.specs.Units.{call_lists, Calls}
use Rattle.call_order.proofs.known.all_known.Given as goal

abbrev pub invariant-loop-callees : goal.invariant-loop-callees
invariant-loop-callees l = (j k : ℕ) → j < l.callees-index → Calls (call_lists l.calls) j k → k < length l.calls
