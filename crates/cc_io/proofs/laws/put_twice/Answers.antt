use Rattle.cc_io.proofs.LawsLemmas.{put-twice}
use Rattle.cc_io.proofs.laws.put_twice.Goals as goal

pub returns : goal.returns
returns c = put-twice
