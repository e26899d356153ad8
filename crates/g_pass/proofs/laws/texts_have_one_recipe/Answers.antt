use Rattle.g_pass.proofs.OneRecipe.{one_recipe}
use Rattle.g_pass.proofs.laws.texts_have_one_recipe.Goals as goal

pub returns : goal.returns
returns c = one_recipe
