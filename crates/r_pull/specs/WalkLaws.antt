-- The law that a walk of Pull is its sweep.
use Rattle.std.specs.Prelude.{◌≡◌, reverse}
use Rattle.r_rule.specs.declared.steps.Rule.TheVariants.{Pull}
use Rattle.g_graph.specs.Ids.{region_ids}
use Rattle.g_graph.specs.WellFormed.{IsWellFormed}
use Rattle.r_pull.specs.Rule.{applies, lambda_pulled}
use Rattle.r_pull.specs.Walk.{walked}
use Rattle.r_sweep_def.specs.Swept.{Logged, Change, swept_by}

abbrev pub pull_change : Change
pull_change = record { rule = Pull; applies = applies; changed = lambda_pulled }

-- The walk over a well-formed lambda makes the steps and the lambda of the sweep from the last number to the first.
abbrev pub PullWalksAreSweeps : Type 0
PullWalksAreSweeps = (s : Logged) → IsWellFormed s.lambda → walked s ≡ swept_by pull_change (reverse (region_ids s.lambda.body)) s
