use Rattle.cc_io.proofs.LawsLemmas.{put-elsewhere}
use Rattle.cc_io.proofs.laws.put_elsewhere.Goals as goal

pub returns : goal.returns
returns c = put-elsewhere
