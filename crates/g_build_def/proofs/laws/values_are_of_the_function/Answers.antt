use Rattle.g_build_def.proofs.lemmas.Programs.{values_are_of_the_function}
use Rattle.g_build_def.proofs.laws.values_are_of_the_function.Goals as goal

pub returns : goal.returns
returns c = values_are_of_the_function
