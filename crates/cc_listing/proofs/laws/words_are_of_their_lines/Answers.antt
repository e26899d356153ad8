-- The law, by cutting words.
use Rattle.cc_listing.proofs.Cut.{words_of_their_lines}
use Rattle.cc_listing.proofs.laws.words_are_of_their_lines.Goals as goal

pub returns : goal.returns
returns c = words_of_their_lines
