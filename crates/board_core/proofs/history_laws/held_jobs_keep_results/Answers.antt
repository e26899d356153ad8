use Rattle.board_core.proofs.BeginningLemmas.{held-jobs-keep-results}
use Rattle.board_core.proofs.history_laws.held_jobs_keep_results.Goals as goal

pub returns : goal.returns
returns g c = held-jobs-keep-results c.deps_give_answer.ensures
