use Rattle.g_pass_def.proofs.Recipes.{replays_are_steps, recipes_replay, recipes_are_steps}
use Rattle.g_pass_def.proofs.laws.recipes_are_steps.Goals as goal

pub returns : goal.returns
returns c = record { replays = replays_are_steps; same = recipes_replay; recipes = recipes_are_steps }
