-- The sweeps that are left make of the lambda what all of them make of the first one, and it is well formed.
use Rattle.std.proofs.Common.{◌≡◌, length, map}
use Rattle.std.specs.Arc.{arc_value}
use Rattle.std.specs.List.{fold}
use Rattle.g_graph.specs.WellFormed.{IsWellFormed}
use Rattle.g_pass_def.specs.Answers.{lambdas_of}
use Rattle.g_pass_def.specs.Sweep.{Swept, sweep}
use Rattle.g_pass.specs.Sweep.{rules}
use Rattle.g_pass.proofs.sweeps.optimise.Given as goal

abbrev pub invariant-loop-rule : goal.invariant-loop-rule
invariant-loop-rule l =
    let now : Swept = record { lambda = l.lambda; steps = l.log.items } in
    let first : Swept = record { lambda = l.initial.lambda; steps = l.initial.log.items } in
    record {
      swept : fold (sweep rules (lambdas_of (map arc_value l.callees))) now l.left ≡ fold (sweep rules (lambdas_of (map arc_value l.callees))) first l.initial.left;
      kept : IsWellFormed l.lambda;
    }

abbrev pub decreases-loop-rule : goal.decreases-loop-rule
decreases-loop-rule l = length l.left
