-- The law, by the words of bytes.
use Rattle.cc_listing.proofs.TextLemmas.{words_are_the_text}
use Rattle.cc_listing.proofs.laws.words_are_the_text.Goals as goal

pub returns : goal.returns
returns c = words_are_the_text
