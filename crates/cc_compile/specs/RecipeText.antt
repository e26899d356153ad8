-- The text of a recipe that has as many sweeps as a recipe may have.
use Rattle.std.specs.Prelude.{◌≡◌, ◌≤◌, ℕ, List, length}
use Rattle.base.specs.Limits.{most_sweeps}
use Rattle.r_rule.specs.declared.steps.Rule.{Rule}
use Rattle.g_pass.specs.Recipe.{recipe_text}

pub record IsTextOf (recipe : List Rule) (text : List ℕ) : Type 0 where
  pub written : text ≡ recipe_text recipe
  pub short : length recipe ≤ most_sweeps
