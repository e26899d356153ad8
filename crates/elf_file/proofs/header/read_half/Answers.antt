use Rattle.elf_file.specs.Header.{half_at}
use Rattle.elf_file.proofs.header.read_half.Goals as goal

pub returns : goal.returns
unfolding half_at
returns c = c.from_le_bytes.ensures
