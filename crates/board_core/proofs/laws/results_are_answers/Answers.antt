use Rattle.board_core.proofs.lemmas.Answers.{results-are-answers}
use Rattle.board_core.proofs.laws.results_are_answers.Goals as goal

pub returns : goal.returns
returns g c = results-are-answers
