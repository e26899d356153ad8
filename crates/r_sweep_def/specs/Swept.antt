-- A sweep of one rule: the rule is tried at some numbers of nodes, one after the other, and each step is noted.
use Rattle.std.specs.Prelude.{ℕ, ◌++◌, List, [], ◌∷◌, Bool, if◌then◌else◌}
use Rattle.std.specs.List.{fold}
use Rattle.r_rule.specs.declared.steps.Rule.{Rule}
use Rattle.r_rule.specs.declared.steps.Step.{Step}
use Rattle.g_graph.specs.Plain.{PlainLambda}

-- a lambda, and the steps that led there
pub record Logged : Type 0 where
  pub lambda : PlainLambda
  pub steps : List Step

-- whether a rule applies at a node, and what it then makes of the lambda
pub record Change : Type 0 where
  pub rule : Rule
  pub applies : PlainLambda → (node : ℕ) → Bool
  pub changed : (node : ℕ) → PlainLambda → PlainLambda

-- the rule at one node, where it applies
abbrev pub tried_by : Change → Logged → (node : ℕ) → Logged
tried_by c s n =
    if c.applies s.lambda n then record { lambda = c.changed n s.lambda; steps = s.steps ++ record { rule = c.rule; node = n } ∷ [] } else s

-- the rule at each of these nodes
abbrev pub swept_by : Change → List ℕ → Logged → Logged
swept_by c ns s = fold (tried_by c) s ns
