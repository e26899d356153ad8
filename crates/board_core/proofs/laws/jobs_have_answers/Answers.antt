use Rattle.board_core.proofs.lemmas.Answers.{jobs-have-answers}
use Rattle.board_core.proofs.laws.jobs_have_answers.Goals as goal

pub returns : goal.returns
returns g c = jobs-have-answers
