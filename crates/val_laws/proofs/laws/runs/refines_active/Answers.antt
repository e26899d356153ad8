use Rattle.val_core.specs.Refinement.{exactly, no_deeper}
use Rattle.val_core.proofs.lemmas.Refinement.{exactly-goes, refines-active, no_deeper-goes}
use Rattle.val_laws.proofs.laws.runs.refines_active.Goals as goal

pub returns-clause-exact : goal.returns-clause-exact
returns-clause-exact g c = refines-active exactly exactly-goes g.A.Related.relate

pub returns-clause-deep : goal.returns-clause-deep
returns-clause-deep g c = refines-active no_deeper no_deeper-goes g.A.Related.relate
