use Rattle.a_place.proofs.lemmas.SharedApart.{shared_places_are_counted}
use Rattle.a_place.proofs.share_laws.shared_places_are_counted.Goals as goal

pub returns : goal.returns
returns c = shared_places_are_counted
