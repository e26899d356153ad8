use Rattle.g_pass.proofs.Letters.{place_below}
use Rattle.std.proofs.Common.{arith}
use Rattle.g_pass.proofs.names.first_rule.Goals as goal

pub returns-clause-none : goal.returns-clause-none
returns-clause-none c = λ k rest. c.loop-rule.invariant k (omega (arith, place_below k, c.loop-rule-test.false)) rest
