use Rattle.elf_file.proofs.SegmentLemmas.{overlap_has_address}
use Rattle.elf_file.proofs.laws.overlap_has_address.Goals as goal

pub returns : goal.returns
returns c = overlap_has_address
