use Rattle.cc_io.proofs.lemmas.Created.{known-saved}
use Rattle.cc_io.proofs.laws.written_whole.Goals as goal

pub returns : goal.returns
returns c = known-saved
