use Rattle.a_place.proofs.lemmas.Apart.{overlapping_names_differ}
use Rattle.a_place.proofs.laws.overlapping_names_differ.Goals as goal

pub returns : goal.returns
returns c = overlapping_names_differ
