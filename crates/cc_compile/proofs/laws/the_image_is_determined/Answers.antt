use Rattle.cc_compile.proofs.Recipes.{one_image, one_list_of_rows, unswept_image}
use Rattle.cc_compile.proofs.laws.the_image_is_determined.Goals as goal

pub returns-clause-one : goal.returns-clause-one
returns-clause-one c = one_image c.answers_are_unique.ensures.unique

pub returns-clause-rows : goal.returns-clause-rows
returns-clause-rows c = one_list_of_rows c.answers_are_unique.ensures.unique

pub returns-clause-unswept : goal.returns-clause-unswept
returns-clause-unswept c = unswept_image c.answers_keep_lists.ensures.unswept
