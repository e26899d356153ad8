use Rattle.c_parse.proofs.AnswerLaws.{one_answer}
use Rattle.c_parse.proofs.laws.the_answer_is_determined.Goals as goal

pub returns : goal.returns
returns c = one_answer
