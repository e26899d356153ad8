use Rattle.board_core.proofs.OwnEventLemmas.{workers-hold-one}
use Rattle.board_core.proofs.history_laws.workers_hold_one.Goals as goal

pub returns : goal.returns
returns g c = workers-hold-one
