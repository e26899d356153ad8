use Rattle.board_core.proofs.BeginningLemmas.{beginnings-are-legal}
use Rattle.board_core.proofs.history_laws.beginnings_are_legal.Goals as goal

pub returns : goal.returns
returns g c = beginnings-are-legal
