-- The law of the sweeps of a table.
use Rattle.std.specs.Prelude.{◌≡◌, ℕ, List, [], Some, length, slice_get}
use Rattle.std.specs.List.{sum_by}
use Rattle.r_rule.specs.declared.steps.Rule.{Rule}
use Rattle.g_graph.specs.Plain.{PlainLambda}
use Rattle.r_rule.specs.Optimised.{PlainOptimised}
use Rattle.g_pass_def.specs.Answers.{lambda_of}
use Rattle.g_pass_def.specs.Sweep.{swept}
use Rattle.g_pass.specs.Counts.{counts_of}
use Rattle.g_pass.specs.declared.replayed_sweeps.SweepCount.{SweepCount}
use Rattle.g_pass.specs.Sweep.{rules}
use Rattle.cc_view_source.specs.Made.{IsMadeWith}

-- The sweeps of a table lead to the answer: the last one ends with its lambda and its log, and together they have as many steps as that log.
abbrev pub SweepsMakeTheAnswer : Type 0
SweepsMakeTheAnswer =
    (recipe : List Rule) (ls : List PlainLambda) (answers : List PlainOptimised) (f : ℕ) (callees : List PlainLambda) (a : PlainOptimised) → slice_get answers f ≡ Some a →
    IsMadeWith recipe ls answers f callees →
    (swept rules callees recipe (lambda_of ls f) ≡ record { lambda = a.lambda; steps = a.steps })
    × (sum_by (λ (c : SweepCount). c.steps) (counts_of rules callees (record { lambda = lambda_of ls f; steps = [] }) recipe) ≡ length a.steps)
