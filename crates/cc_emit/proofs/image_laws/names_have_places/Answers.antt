use Rattle.cc_emit.proofs.Placed.{names_have_places}
use Rattle.cc_emit.proofs.image_laws.names_have_places.Goals as goal

pub returns : goal.returns
returns c = names_have_places c.places_are_below_count.ensures c.shared_places_are_counted.ensures
