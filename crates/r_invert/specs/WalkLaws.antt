-- The law of the rule in a walk.
use Rattle.r_rule.specs.declared.steps.Rule.TheVariants.{Invert}
use Rattle.r_invert.specs.Rule.{applies, lambda_inverted}
use Rattle.r_invert.specs.Asked.{invert_asked}
use Rattle.r_sweep_def.specs.Swept.{Change}
use Rattle.r_walk.specs.Laws.{IsLocal}

abbrev pub invert_change : Change
invert_change = record { rule = Invert; applies = applies; changed = lambda_inverted }

-- The rule makes of each node what a walk is told.
abbrev pub InvertIsLocal : Type 0
InvertIsLocal = IsLocal invert_change invert_asked
