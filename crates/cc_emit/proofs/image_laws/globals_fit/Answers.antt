use Rattle.cc_emit.proofs.Globals.{globals_fit}
use Rattle.cc_emit.proofs.image_laws.globals_fit.Goals as goal

pub returns : goal.returns
returns c = globals_fit
