-- The text of a recipe: the names of its rules, one for each sweep, joined by commas; `none` where it has no sweep.
use Rattle.std.specs.Prelude.{◌≡◌, ℕ, ◌++◌, List, [], ◌∷◌, codes}
use Rattle.r_rule.specs.declared.steps.Rule.{Rule}
use Rattle.r_rule.specs.Names.{rule_name}

abbrev pub later_text : List Rule → List ℕ
later_text [] = []
later_text (r ∷ rs) = codes "," ++ rule_name r ++ later_text rs

abbrev pub recipe_text : List Rule → List ℕ
recipe_text [] = codes "none"
recipe_text (r ∷ rs) = rule_name r ++ later_text rs

-- No two recipes have one text.
abbrev pub OneRecipe : Type 0
OneRecipe = (rules others : List Rule) → recipe_text rules ≡ recipe_text others → rules ≡ others
