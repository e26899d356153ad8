-- The answers that are kept of an earlier list.
use Rattle.std.specs.Prelude.{ℕ, Bool, List}
use Rattle.r_rule.specs.declared.steps.Rule.{Rule}
use Rattle.g_graph.specs.Plain.{PlainLambda}
use Rattle.r_rule.specs.Optimised.{PlainOptimised}
use Rattle.g_pass_def.specs.Sweep.{RuleTable}
use Rattle.g_pass_def.specs.Answers.{AreAnswers}
use Rattle.g_pass_work.specs.Stale.{AreStale}

-- These answers are those of an earlier list, and against it these functions of the list now are stale. Where there was
-- no earlier list, it is the empty one.
pub record AreKept (t : RuleTable) (rules : List Rule) (ls : List PlainLambda) (deps : List (List ℕ)) (stale : List Bool) (kept : List PlainOptimised) : Type 0 where
  pub earlier : List PlainLambda
  pub answered : AreAnswers t rules earlier kept
  pub are_stale : AreStale earlier answered.deps ls deps stale
