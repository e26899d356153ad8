use Rattle.r_edit.proofs.lemmas.Numbering as numbering
use Rattle.r_edit.proofs.copy_laws.copies_are_numbered.Goals as goal

pub returns : goal.returns
returns c = numbering.copies_are_numbered
