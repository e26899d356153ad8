use Rattle.a_place.proofs.lemmas.Safe.{shared_params_differ}
use Rattle.a_place.proofs.share_laws.shared_params_differ.Goals as goal

pub returns : goal.returns
returns c = shared_params_differ
