use Rattle.board_core.proofs.OwnEventLemmas.{own-stops-decide}
use Rattle.board_core.proofs.history_laws.own_stops_decide.Goals as goal

pub returns : goal.returns
returns g c = own-stops-decide
