use Rattle.r_edit.proofs.lemmas.Copies.{copies_name_the_same}
use Rattle.r_edit.proofs.lemmas.Copies as copies
use Rattle.r_edit.proofs.copy_laws.copies_call_the_same.Goals as goal

pub returns-clause-functions : goal.returns-clause-functions
returns-clause-functions c = copies.copies_call_the_same

pub returns-clause-globals : goal.returns-clause-globals
returns-clause-globals c = copies_name_the_same
