use Rattle.cc_io.proofs.lemmas.Prepends.{prepend-twice}
use Rattle.cc_io.proofs.laws.prepend_twice.Goals as goal

pub returns : goal.returns
returns c = prepend-twice
