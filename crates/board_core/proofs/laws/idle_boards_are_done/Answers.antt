use Rattle.board_core.proofs.lemmas.Answers.{idle-boards-are-done}
use Rattle.board_core.proofs.laws.idle_boards_are_done.Goals as goal

pub returns : goal.returns
returns g c = idle-boards-are-done
