use Rattle.cc_emit.proofs.Short.{lines_are_short}
use Rattle.cc_emit.proofs.image_laws.lines_are_short.Goals as goal

pub returns : goal.returns
returns c = lines_are_short
