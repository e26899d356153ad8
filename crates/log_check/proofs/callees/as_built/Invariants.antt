use Rattle.std.proofs.Common.{◌≡◌, length}
use Rattle.log_check.proofs.callees.as_built.Given as goal

abbrev pub invariant-loop-lambda : goal.invariant-loop-lambda
invariant-loop-lambda l = length l.all.items ≡ l.lambda-index
