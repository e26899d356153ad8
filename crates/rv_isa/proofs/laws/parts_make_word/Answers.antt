use Rattle.rv_isa.proofs.lemmas.WordParts.{parts_make_word}
use Rattle.rv_isa.proofs.laws.parts_make_word.Goals as goal

pub returns : goal.returns
returns c = parts_make_word
