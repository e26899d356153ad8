-- The law of the rule in a walk.
use Rattle.r_rule.specs.declared.steps.Rule.TheVariants.{Unroll}
use Rattle.r_sweep_def.specs.Swept.{Change}
use Rattle.r_unroll.specs.Rule.{applies, lambda_unrolled}
use Rattle.r_unroll.specs.Asked.{unroll_asked}
use Rattle.r_walk.specs.Laws.{IsLocal}

abbrev pub unroll_change : Change
unroll_change = record { rule = Unroll; applies = applies; changed = lambda_unrolled }

-- The rule makes of each node what a walk is told.
abbrev pub UnrollIsLocal : Type 0
UnrollIsLocal = IsLocal unroll_change unroll_asked
