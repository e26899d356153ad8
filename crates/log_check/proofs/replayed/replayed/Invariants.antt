-- The lambda is the one after the steps so far, and well formed.
use Rattle.std.proofs.Common.{◌≡◌, ◌≤◌, ◌-◌, Some, map, take, length}
use Rattle.std.specs.Arc.{arc_value}
use Rattle.g_graph.specs.WellFormed.{IsWellFormed}
use Rattle.g_pass_def.specs.Answers.{lambdas_of}
use Rattle.g_pass_def.specs.Sweep.{replayed}
use Rattle.g_pass.specs.Sweep.{rules}
use Rattle.log_check.proofs.replayed.replayed.Given as goal

abbrev pub invariant-loop-made : goal.invariant-loop-made
invariant-loop-made l =
    record {
      within : l.made ≤ length l.steps;
      made : replayed rules (lambdas_of (map arc_value l.callees)) (take l.made l.steps) l.lambda ≡ Some l.changed;
      well_formed : IsWellFormed l.changed;
    }

abbrev pub decreases-loop-made : goal.decreases-loop-made
decreases-loop-made l = length l.steps - l.made
