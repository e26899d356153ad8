use Rattle.a_place.proofs.lemmas.Apart.{places_are_below_count}
use Rattle.a_place.proofs.laws.places_are_below_count.Goals as goal

pub returns : goal.returns
returns c = places_are_below_count
