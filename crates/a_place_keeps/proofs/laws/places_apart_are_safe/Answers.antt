use Rattle.a_place_keeps.proofs.Safe.{places_apart_are_safe}
use Rattle.a_place_keeps.proofs.laws.places_apart_are_safe.Goals as goal

pub returns : goal.returns
returns c = places_apart_are_safe
