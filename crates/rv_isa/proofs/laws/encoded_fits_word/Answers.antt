use Rattle.rv_isa.proofs.lemmas.EncodedFitsWord.{encoded_fits_word}
use Rattle.rv_isa.proofs.laws.encoded_fits_word.Goals as goal

pub returns : goal.returns
returns c = encoded_fits_word
