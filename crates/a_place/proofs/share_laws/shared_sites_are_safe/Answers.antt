use Rattle.a_place.proofs.lemmas.Safe.{shared_sites_are_safe}
use Rattle.a_place.proofs.share_laws.shared_sites_are_safe.Goals as goal

pub returns : goal.returns
returns c = shared_sites_are_safe
