-- A sweep of one rule over a list of nodes.
use Rattle.std.specs.Prelude.{ℕ, ◌++◌, List, [], ◌∷◌}
use Rattle.std.specs.List.{fold}
use Rattle.std.specs.declared.option.Option.{Option}
use Rattle.std.specs.declared.option.Option.TheVariants.{Some, None}
use Rattle.r_rule.specs.declared.steps.Step.{Step}
use Rattle.g_arena_def.specs.Flat.{Flat}
use Rattle.r_sweep_def.specs.Swept.{Change}

-- a list of nodes, and the steps that led there
pub record Listed : Type 0 where
  pub nodes : Flat
  pub steps : List Step

-- what the rule makes of the list at a node, noted where it makes something
abbrev pub stepped_in : Change → (node : ℕ) → Listed → Option Flat → Listed
stepped_in c n s None = s
stepped_in c n s (Some a) = record { nodes = a; steps = s.steps ++ record { rule = c.rule; node = n } ∷ [] }

-- the rule at each of these nodes, by what it makes of a list at a node
abbrev pub swept_in : Change → (step : ℕ → Flat → Option Flat) → List ℕ → Listed → Listed
swept_in c step ns s = fold (λ (t : Listed) (n : ℕ). stepped_in c n t (step n t.nodes)) s ns
