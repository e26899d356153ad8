use Rattle.a_place.proofs.lemmas.Starting.{places_are_few}
use Rattle.a_place.proofs.laws.places_are_few.Goals as goal

pub returns : goal.returns
returns c = places_are_few
