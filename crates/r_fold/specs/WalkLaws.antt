-- The law of the rule in a walk.
use Rattle.r_rule.specs.declared.steps.Rule.TheVariants.{Fold}
use Rattle.r_fold.specs.Rule.{applies, fold}
use Rattle.r_sweep_def.specs.Swept.{Change}
use Rattle.r_walk.specs.Laws.{IsLocal}
use Rattle.r_fold.specs.Asked.{fold_asked}

abbrev pub fold_change : Change
fold_change = record { rule = Fold; applies = applies; changed = fold }

-- The rule makes of each node what a walk is told.
abbrev pub FoldIsLocal : Type 0
FoldIsLocal = IsLocal fold_change fold_asked
