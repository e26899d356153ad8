use Rattle.std.proofs.Common.{◌≡◌, map, length, take}
use Rattle.call_order.specs.Units.{call_lists}
use Rattle.g_pass_order.specs.Calls.{callees}
use Rattle.g_pass_order.proofs.calls.calls.Given as goal

-- the calls of the lambdas so far
abbrev pub invariant-loop-lambda : goal.invariant-loop-lambda
invariant-loop-lambda l = call_lists l.calls.items ≡ map (callees (length l.lambdas)) (take l.lambda-index l.lambdas)
