use Rattle.std.proofs.Common.{◌≡◌, ◌+◌, ◌++◌, drop}
use Rattle.r_pull.specs.Rule.{args_from}
use Rattle.r_pull.proofs.plan.arguments.Given as goal

abbrev pub invariant-loop-k : goal.invariant-loop-k
invariant-loop-k l = l.all.items ++ args_from (l.first + l.k) (drop l.k l.inputs) ≡ args_from l.first l.inputs
