use Rattle.std.proofs.Common.{◌≡◌, map, drop}
use Rattle.std.specs.Arc.{arc_value}
use Rattle.g_pass_def.specs.Answers.{lambdas_of}
use Rattle.r_inline.specs.Callees.{numbered}
use Rattle.g_pass.proofs.callee.numbered.Given as goal

-- the first of the callees from an index on is the first of all
abbrev pub invariant-loop-callee : goal.invariant-loop-callee
invariant-loop-callee l =
    numbered l.function (lambdas_of (map arc_value (drop l.callee-index l.callees))) ≡ numbered l.function (lambdas_of (map arc_value l.callees))
