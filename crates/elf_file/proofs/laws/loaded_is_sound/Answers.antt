use Rattle.elf_file.proofs.SegmentLemmas.{loaded_is_sound}
use Rattle.elf_file.proofs.laws.loaded_is_sound.Goals as goal

pub returns : goal.returns
returns c = loaded_is_sound
