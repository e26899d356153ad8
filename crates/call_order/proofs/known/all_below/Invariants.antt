use Rattle.std.proofs.Common.{ℕ, ◌<◌, slice_index}
use Rattle.call_order.proofs.known.all_below.Given as goal

abbrev pub invariant-loop-callee : goal.invariant-loop-callee
invariant-loop-callee l = (e : ℕ) → e < l.callee-index → slice_index l.callees e < l.count
