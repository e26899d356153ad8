use Rattle.c_parse.proofs.AnswerLaws.{shaped_is_accepted}
use Rattle.c_parse.proofs.laws.shaped_trees_are_accepted.Goals as goal

pub returns : goal.returns
returns c = shaped_is_accepted
