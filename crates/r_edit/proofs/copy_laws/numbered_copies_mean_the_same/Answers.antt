use Rattle.r_edit.proofs.lemmas.Copies as copies
use Rattle.r_edit.proofs.copy_laws.numbered_copies_mean_the_same.Goals as goal

pub returns : goal.returns
returns c = copies.numbered_copies_mean_the_same
