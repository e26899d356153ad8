-- What a sweep of a rule makes of a lambda, and what a recipe makes of it, sweep by sweep, over any table of rules.
use Rattle.std.specs.Prelude.{ℕ, ◌++◌, List, [], ◌∷◌, Bool, Option, None, Some, option_and_then, reverse, if◌then◌else◌}
use Rattle.std.specs.List.{fold}
use Rattle.r_rule.specs.declared.steps.Rule.{Rule}
use Rattle.r_rule.specs.declared.steps.Step.{Step}
use Rattle.g_graph.specs.Plain.{PlainLambda}
use Rattle.r_rule.specs.Optimised.{PlainOptimised}
use Rattle.g_graph.specs.Ids.{region_ids}
use Rattle.g_graph.specs.Program.{lambda_values}

-- A row for each rule: whether a sweep of it goes from the last node to the first, and what the rule makes of a lambda at
-- a node where it applies, given the lambdas that may come in the place of calls.
pub record RuleTable : Type 0 where
  pub is_backward : Rule → Bool
  pub step : Rule → (callees : List PlainLambda) → (node : ℕ) → PlainLambda → Option PlainLambda

-- ---- sweeps

-- a lambda, and the steps that were applied before it
pub record Swept : Type 0 where
  pub lambda : PlainLambda
  pub steps : List Step

abbrev pub stepped : Rule → (node : ℕ) → Swept → Option PlainLambda → Swept
stepped r n s None = s
stepped r n s (Some k) = record { lambda = k; steps = s.steps ++ record { rule = r; node = n } ∷ [] }

-- the rule at one node, where it applies
abbrev pub tried : RuleTable → (callees : List PlainLambda) → Rule → Swept → (node : ℕ) → Swept
tried t callees r s n = stepped r n s (t.step r callees n s.lambda)

abbrev pub in_order : RuleTable → Rule → List ℕ → List ℕ
in_order t r ns = if t.is_backward r then reverse ns else ns

-- The numbers that the lambda has as the sweep begins, in pre-order or in that order reversed: what a step makes is not
-- visited, and what a step takes away does not apply.
abbrev pub sweep : RuleTable → (callees : List PlainLambda) → Swept → Rule → Swept
sweep t callees s r = fold (tried t callees r) s (in_order t r (region_ids s.lambda.body))

abbrev pub swept : RuleTable → (callees : List PlainLambda) → List Rule → PlainLambda → Swept
swept t callees rules l = fold (sweep t callees) (record { lambda = l; steps = [] }) rules

-- what a recipe makes of a lambda
abbrev pub optimise : RuleTable → (callees : List PlainLambda) → List Rule → PlainLambda → PlainOptimised
optimise t callees rules l =
    let s = swept t callees rules l in record { lambda = s.lambda; steps = s.steps; before = lambda_values l }

-- ---- steps by themselves

-- what these steps make of a lambda, one after the other; none where one of them does not apply
abbrev pub replayed : RuleTable → (callees : List PlainLambda) → List Step → PlainLambda → Option PlainLambda
replayed t callees [] l = Some l
replayed t callees (s ∷ steps) l = option_and_then (replayed t callees steps) (t.step s.rule callees s.node l)
