use Rattle.std.proofs.Common.{◌≡◌, Some, map, take}
use Rattle.std.specs.Arc.{arc_value}
use Rattle.g_graph.specs.WellFormed.{IsWellFormed}
use Rattle.g_pass_def.specs.Answers.{lambdas_of}
use Rattle.g_pass_def.specs.Sweep.{replayed}
use Rattle.g_pass.specs.Sweep.{rules}
use Rattle.log_check.proofs.series.made_singly.Given as goal

-- the lambda is the one after the steps so far, and well formed
abbrev pub invariant-loop-index : goal.invariant-loop-index
invariant-loop-index l =
    record { made : replayed rules (lambdas_of (map arc_value l.callees)) (take l.index l.steps) l.initial.lambda ≡ Some l.lambda; well_formed : IsWellFormed l.lambda }
