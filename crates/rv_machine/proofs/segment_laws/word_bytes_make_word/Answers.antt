use Rattle.rv_machine.proofs.lemmas.Texts.{word_bytes_make_word}
use Rattle.rv_machine.proofs.segment_laws.word_bytes_make_word.Goals as goal

pub returns : goal.returns
returns c = word_bytes_make_word
