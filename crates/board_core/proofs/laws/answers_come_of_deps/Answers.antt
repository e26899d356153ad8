use Rattle.board_core.proofs.lemmas.Answers.{answers-come-of-deps}
use Rattle.board_core.proofs.laws.answers_come_of_deps.Goals as goal

pub returns : goal.returns
returns g c = answers-come-of-deps
