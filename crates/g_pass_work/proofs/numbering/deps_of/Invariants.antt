-- Of the deps so far those that are stale have their numbers.
use Rattle.std.proofs.Common.{◌≡◌, [], map, take, slice_index_or}
use Rattle.call_order.specs.Units.{call_lists}
use Rattle.g_pass_work.specs.Renewal.{stale_jobs}
use Rattle.g_pass_work.proofs.numbering.deps_of.Given as goal

abbrev pub invariant-loop-function : goal.invariant-loop-function
invariant-loop-function l = call_lists l.own.items ≡ map (λ j. stale_jobs l.stale (slice_index_or (call_lists l.deps) j [])) (take l.function-index l.functions)
