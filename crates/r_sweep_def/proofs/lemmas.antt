-- A sweep over a list of nodes is a sweep over the lambda, where it is so at each node.
use Rattle.std.proofs.Common.{◌≡◌, ◌++◌, ℕ, Bool, true, false, Option, None, Some, option_map, List, [], ◌∷◌, refl, ap, ◌∙◌}
use Rattle.std.specs.Prelude.{if◌then◌else◌}
use Rattle.g_graph.specs.Plain.{PlainLambda}
use Rattle.g_graph.specs.WellFormed.{IsWellFormed}
use Rattle.g_arena_def.specs.Flat.{Flat, flat_of}
use Rattle.r_sweep_def.specs.Swept.{Logged, Change, tried_by, swept_by}
use Rattle.r_sweep_def.specs.Listed.{Listed, stepped_in, swept_in}

module _ (c : Change) (step : ℕ → Flat → Option Flat)
    (same : (l : PlainLambda) (n : ℕ) → IsWellFormed l → step n (flat_of l) ≡ option_map flat_of (if c.applies l n then Some (c.changed n l) else None))
    (keeps : (n : ℕ) (l : PlainLambda) → IsWellFormed l → IsWellFormed (c.changed n l)) where
  abbrev as_listed : Logged → Listed
  as_listed s = record { nodes = flat_of s.lambda; steps = s.steps }

  one_step : (n : ℕ) (s : Logged) → IsWellFormed s.lambda → stepped_in c n (as_listed s) (step n (flat_of s.lambda)) ≡ as_listed (tried_by c s n)
  one_step n s well = ap (stepped_in c n (as_listed s)) (same s.lambda n well) ∙ by (c.applies s.lambda n)
    where
      by : (t : Bool) → stepped_in c n (as_listed s) (option_map flat_of (if t then Some (c.changed n s.lambda) else None))
          ≡ as_listed (if t then record { lambda = c.changed n s.lambda; steps = s.steps ++ record { rule = c.rule; node = n } ∷ [] } else s)
      by true = refl
      by false = refl

  well_after : (n : ℕ) (s : Logged) → IsWellFormed s.lambda → IsWellFormed (tried_by c s n).lambda
  well_after n s well = by (c.applies s.lambda n)
    where
      by : (t : Bool) → IsWellFormed (if t then record { lambda = c.changed n s.lambda; steps = s.steps ++ record { rule = c.rule; node = n } ∷ [] } else s).lambda
      by true = keeps n s.lambda well
      by false = well

  pub listed_sweeps : (ns : List ℕ) (s : Logged) → IsWellFormed s.lambda → swept_in c step ns (as_listed s) ≡ as_listed (swept_by c ns s)
  listed_sweeps [] s well = refl
  listed_sweeps (n ∷ ns) s well = ap (swept_in c step ns) (one_step n s well) ∙ listed_sweeps ns (tried_by c s n) (well_after n s well)
