use Rattle.rv_isa.proofs.lemmas.WordParts.{low_part_fits}
use Rattle.rv_isa.proofs.laws.low_part_fits.Goals as goal

pub returns : goal.returns
returns c = low_part_fits
