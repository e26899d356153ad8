-- The log, with the step where it is noted.
use Rattle.std.specs.Prelude.{ℕ, ◌++◌, List, [], ◌∷◌, Bool, if◌then◌else◌}
use Rattle.r_rule.specs.declared.steps.Rule.TheVariants.{Dne}
use Rattle.r_rule.specs.declared.steps.Step.{Step}

abbrev pub with_note : Bool → (node : ℕ) → List Step → List Step
with_note noted n steps = if noted then steps ++ record { rule = Dne; node = n } ∷ [] else steps
