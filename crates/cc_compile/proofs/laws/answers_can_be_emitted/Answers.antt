use Rattle.cc_compile.proofs.Recipes.{answers_can_be_emitted}
use Rattle.cc_compile.proofs.laws.answers_can_be_emitted.Goals as goal

pub returns : goal.returns
returns c = answers_can_be_emitted c.well_typed_are_built.ensures c.programs_can_be_emitted.ensures.lists c.answers_keep_lists.ensures.lists
