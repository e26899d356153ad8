-- The counts of the sweeps so far, and the lambda after them.
use Rattle.std.proofs.Common.{◌≡◌, ◌++◌, drop, map}
use Rattle.std.specs.Arc.{arc_value}
use Rattle.g_graph.specs.WellFormed.{IsWellFormed}
use Rattle.g_pass_def.specs.Answers.{lambdas_of}
use Rattle.g_pass_def.specs.Sweep.{Swept}
use Rattle.g_pass.specs.Sweep.{rules}
use Rattle.g_pass.specs.Counts.{counts_of}
use Rattle.g_pass.proofs.replayed_sweeps.sweep_counts.Given as goal

-- the sweeps that are left begin where those so far ended, and the lambda is well formed
abbrev pub invariant-loop-rule : goal.invariant-loop-rule
invariant-loop-rule l =
    let now : Swept = record { lambda = l.lambda; steps = l.log.items } in
    let first : Swept = record { lambda = l.initial.lambda; steps = l.initial.log.items } in
    record {
      counts :
          l.counts.items ++ counts_of rules (lambdas_of (map arc_value l.callees)) now (drop l.rule-index l.rule-items)
          ≡ counts_of rules (lambdas_of (map arc_value l.callees)) first l.rule-items;
      kept : IsWellFormed l.lambda;
    }
