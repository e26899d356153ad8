use Rattle.std.proofs.Common.{◌≡◌, map, take}
use Rattle.std.specs.Arc.{arc_value}
use Rattle.g_pass_def.specs.Answers.{lambdas_of}
use Rattle.g_pass_def.specs.Replayed.{lambdas_at}
use Rattle.log_check.proofs.callees.callees_of.Given as goal

abbrev pub invariant-loop-number : goal.invariant-loop-number
invariant-loop-number l =
    lambdas_of (map arc_value l.callees.items) ≡ lambdas_at (lambdas_of (map arc_value l.made)) (take l.number-index l.numbers)
