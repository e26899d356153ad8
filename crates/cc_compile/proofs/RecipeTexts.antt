-- A text that is of no recipe.
use Rattle.std.proofs.Common.{◌≢◌, ◌≤◌, ℕ, List, length}
use Rattle.base.specs.Limits.{most_sweeps}
use Rattle.r_rule.specs.declared.steps.Rule.{Rule}
use Rattle.g_pass.specs.Recipe.{recipe_text}
use Rattle.cc_compile.specs.RecipeText.{IsTextOf}

pub no_recipe : (text : List ℕ) → ((rules : List Rule) → length rules ≤ most_sweeps → text ≢ recipe_text rules) → (recipe : List Rule) → IsTextOf recipe text → ⊥
no_recipe text none recipe is = none recipe is.short is.written
