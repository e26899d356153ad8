-- The law of a walk of push.
use Rattle.std.specs.Prelude.{◌≡◌}
use Rattle.g_graph.specs.Ids.{region_ids}
use Rattle.g_graph.specs.WellFormed.{IsWellFormed}
use Rattle.r_rule.specs.declared.steps.Rule.TheVariants.{Push}
use Rattle.r_push.specs.Rule.{applies, lambda_pushed}
use Rattle.r_push.specs.Walk.{walked}
use Rattle.r_sweep_def.specs.Swept.{Logged, Change, swept_by}

abbrev pub push_change : Change
push_change = record { rule = Push; applies = applies; changed = lambda_pushed }

-- A walk over a well-formed lambda makes the steps and the lambda of the rule's sweep.
abbrev pub WalkIsSweep : Type 0
WalkIsSweep = (s : Logged) → IsWellFormed s.lambda → walked s ≡ swept_by push_change (region_ids s.lambda.body) s
