-- What a sweep over an indexed list of nodes promises.
use Rattle.std.specs.Prelude.{◌≡◌, ℕ, List}
use Rattle.r_rule.specs.declared.steps.Step.{Step}
use Rattle.g_graph.specs.Plain.{PlainLambda}
use Rattle.g_graph.specs.WellFormed.{IsWellFormed}
use Rattle.g_arena_def.specs.Flat.{Flat, StandsFor}
use Rattle.r_sweep_def.specs.Swept.{Change, swept_by}

-- The list is that of a well-formed lambda.
pub record IsWhole (a : Flat) : Type 0 where
  pub lambda : PlainLambda
  pub stands : StandsFor a lambda
  pub well : IsWellFormed lambda

-- A list of nodes and a log are those after a sweep of these nodes of a lambda, of which the log had these steps.
abbrev pub HasSwept : Change → (nodes : List ℕ) → PlainLambda → (steps : List Step) → Flat → (log : List Step) → Type 0
HasSwept c ns l steps a log =
    let s = swept_by c ns (record { lambda = l; steps = steps }) in StandsFor a s.lambda × (log ≡ s.steps)
