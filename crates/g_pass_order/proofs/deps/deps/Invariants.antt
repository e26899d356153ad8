use Rattle.std.proofs.Common.{◌≡◌, [], map, slice_index_or}
use Rattle.std.specs.List.{range_with_len}
use Rattle.call_order.specs.Units.{call_lists}
use Rattle.g_pass_order.specs.Calls.{outside}
use Rattle.g_pass_order.proofs.deps.deps.Given as goal

-- those of the functions so far
abbrev pub invariant-loop-function : goal.invariant-loop-function
invariant-loop-function l =
    call_lists l.deps.items ≡ map (λ j. outside l.unit j (slice_index_or (call_lists l.calls) j [])) (range_with_len 0 l.function)
