use Rattle.std.proofs.Common.{◌≡◌, take}
use Rattle.g_pass_order.specs.Calls.{outside}
use Rattle.g_pass_order.proofs.deps.others.Given as goal

-- those of the functions so far
abbrev pub invariant-loop-callee : goal.invariant-loop-callee
invariant-loop-callee l = l.found.items ≡ outside l.unit l.function (take l.callee-index l.called)
