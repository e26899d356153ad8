use Rattle.board_core.proofs.BeginningLemmas.{events-go-on}
use Rattle.board_core.proofs.history_laws.events_go_on.Goals as goal

pub returns : goal.returns
returns g c = events-go-on
