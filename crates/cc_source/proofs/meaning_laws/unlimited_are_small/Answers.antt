use Rattle.cc_source.proofs.lemmas.Small.{unlimited_are_small}
use Rattle.cc_source.proofs.meaning_laws.unlimited_are_small.Goals as goal

pub returns : goal.returns
returns c = unlimited_are_small
