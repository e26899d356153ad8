use Rattle.board_core.proofs.BeginningLemmas.{histories-grow}
use Rattle.board_core.proofs.history_laws.histories_grow.Goals as goal

pub returns : goal.returns
returns g c = histories-grow
