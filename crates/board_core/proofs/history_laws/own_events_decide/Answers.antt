use Rattle.board_core.proofs.OwnEventLemmas.{own-events-decide}
use Rattle.board_core.proofs.history_laws.own_events_decide.Goals as goal

pub returns : goal.returns
returns g c = own-events-decide
