use Rattle.r_edit.proofs.lemmas.Fits.{copies_count_the_same}
use Rattle.r_edit.proofs.lemmas.Fits as fits
use Rattle.r_edit.proofs.copy_laws.copies_fit.Goals as goal

pub returns-clause-fits : goal.returns-clause-fits
returns-clause-fits c = fits.copies_fit

pub returns-clause-count : goal.returns-clause-count
returns-clause-count c = copies_count_the_same
