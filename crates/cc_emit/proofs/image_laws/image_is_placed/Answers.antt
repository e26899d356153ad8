use Rattle.cc_emit.proofs.Sections.{image_is_placed}
use Rattle.cc_emit.proofs.image_laws.image_is_placed.Goals as goal

pub returns : goal.returns
returns c = image_is_placed c.functions_fit.ensures c.laid_is_placed.ensures
