use Rattle.cc_io.proofs.LawsLemmas.{put-then-append}
use Rattle.cc_io.proofs.laws.put_then_append.Goals as goal

pub returns : goal.returns
returns c = put-then-append
