use Rattle.cc_io.proofs.lemmas.Sink.{append-append}
use Rattle.cc_io.proofs.laws.append_twice.Goals as goal

pub returns : goal.returns
returns c = append-append
