use Rattle.board_core.proofs.CountLemmas.{histories-are-short}
use Rattle.board_core.proofs.laws.histories_are_short.Goals as goal

pub returns : goal.returns
returns g c = histories-are-short
