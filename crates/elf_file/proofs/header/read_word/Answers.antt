use Rattle.elf_file.specs.Header.{word_at}
use Rattle.elf_file.proofs.header.read_word.Goals as goal

pub returns : goal.returns
unfolding word_at
returns c = c.from_le_bytes.ensures
