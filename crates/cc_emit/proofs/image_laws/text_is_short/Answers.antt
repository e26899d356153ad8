use Rattle.cc_emit.proofs.Sections.{text_is_short}
use Rattle.cc_emit.proofs.image_laws.text_is_short.Goals as goal

pub returns : goal.returns
returns c = text_is_short
