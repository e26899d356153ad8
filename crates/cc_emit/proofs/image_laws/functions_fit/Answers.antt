use Rattle.cc_emit.proofs.lemmas.FunctionFits.{functions_fit}
use Rattle.cc_emit.proofs.image_laws.functions_fit.Goals as goal

pub returns : goal.returns
returns c = functions_fit
