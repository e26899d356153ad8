use Rattle.board_core.proofs.BeginningLemmas.{results-stay}
use Rattle.board_core.proofs.history_laws.results_stay.Goals as goal

pub returns : goal.returns
returns g c = results-stay
