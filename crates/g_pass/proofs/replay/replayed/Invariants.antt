-- The lambda after the steps so far.
use Rattle.std.proofs.Common.{◌≡◌, drop, map}
use Rattle.std.specs.Arc.{arc_value}
use Rattle.g_graph.specs.WellFormed.{IsWellFormed}
use Rattle.g_pass_def.specs.Answers.{lambdas_of}
use Rattle.g_pass_def.specs.Sweep.{replayed}
use Rattle.g_pass.specs.Sweep.{rules}
use Rattle.g_pass.proofs.replay.replayed.Given as goal

-- the steps that are left make of the lambda so far what all make of the first
abbrev pub invariant-loop-taken : goal.invariant-loop-taken
invariant-loop-taken l = record {
  well_formed : IsWellFormed l.changed;
  rest :
      replayed rules (lambdas_of (map arc_value l.callees)) (drop l.taken-index l.steps) l.changed
      ≡ replayed rules (lambdas_of (map arc_value l.callees)) l.steps l.lambda;
}
