use Rattle.cc_emit.proofs.CodeSize.{code_is_short}
use Rattle.cc_emit.proofs.image_laws.code_is_short.Goals as goal

pub returns : goal.returns
returns c = code_is_short c.lines_are_short.ensures
