use Rattle.a_place.proofs.lemmas.Few.{shared_places_are_few}
use Rattle.a_place.proofs.share_laws.shared_places_are_few.Goals as goal

pub returns : goal.returns
returns c = shared_places_are_few
