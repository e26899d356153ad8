use Rattle.cc_io.proofs.LawsLemmas.{put-here}
use Rattle.cc_io.proofs.laws.put_here.Goals as goal

pub returns : goal.returns
returns c = put-here
