use Rattle.val_core.specs.Refinement.{exactly, no_deeper}
use Rattle.val_core.proofs.lemmas.Refinement.{backward-within, exactly-output, no_deeper-output}
use Rattle.val_laws.proofs.laws.runs.backward_is_within.Goals as goal

pub returns-clause-exact : goal.returns-clause-exact
returns-clause-exact g c = backward-within exactly exactly-output g.A.Related.relate

pub returns-clause-deep : goal.returns-clause-deep
returns-clause-deep g c = backward-within no_deeper no_deeper-output g.A.Related.relate
