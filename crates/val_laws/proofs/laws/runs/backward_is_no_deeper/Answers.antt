use Rattle.val_core.specs.Refinement.{exactly, no_deeper}
use Rattle.val_core.proofs.lemmas.Refinement.{backward-no-deeper, exactly-depth, no_deeper-depth}
use Rattle.val_laws.proofs.laws.runs.backward_is_no_deeper.Goals as goal

pub returns-clause-exact : goal.returns-clause-exact
returns-clause-exact g c = backward-no-deeper exactly exactly-depth g.A.Related.relate

pub returns-clause-deep : goal.returns-clause-deep
returns-clause-deep g c = backward-no-deeper no_deeper no_deeper-depth g.A.Related.relate
