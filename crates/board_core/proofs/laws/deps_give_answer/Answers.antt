use Rattle.board_core.proofs.lemmas.Answers.{deps-give-answer}
use Rattle.board_core.proofs.laws.deps_give_answer.Goals as goal

pub returns : goal.returns
returns g c = deps-give-answer
