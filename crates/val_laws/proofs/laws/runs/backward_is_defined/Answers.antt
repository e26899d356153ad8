use Rattle.val_core.specs.Refinement.{exactly, no_deeper}
use Rattle.val_core.proofs.lemmas.Refinement.{backward-defined}
use Rattle.val_laws.proofs.laws.runs.backward_is_defined.Goals as goal

pub returns-clause-exact : goal.returns-clause-exact
returns-clause-exact g c = backward-defined exactly g.A.Related.relate

pub returns-clause-deep : goal.returns-clause-deep
returns-clause-deep g c = backward-defined no_deeper g.A.Related.relate
