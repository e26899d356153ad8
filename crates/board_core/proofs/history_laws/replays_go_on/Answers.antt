use Rattle.board_core.proofs.BeginningLemmas.{replays-go-on}
use Rattle.board_core.proofs.history_laws.replays_go_on.Goals as goal

pub returns : goal.returns
returns g c = replays-go-on
