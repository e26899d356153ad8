-- The law is the lemma.
use Rattle.cc_source.proofs.Lines.{lines_are_of_offsets}
use Rattle.cc_source.proofs.offset_laws.lines_are_of_offsets.Goals as goal

pub returns : goal.returns
returns c = lines_are_of_offsets
