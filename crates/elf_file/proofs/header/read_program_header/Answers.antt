use Rattle.std.proofs.Common.{refl}
use Rattle.elf_file.specs.Header.{header_at}
use Rattle.elf_file.proofs.header.read_program_header.Goals as goal

pub returns : goal.returns
unfolding header_at
returns c =
    rw c.read_word.ensures rw c.read_word-2.ensures rw c.read_word-3.ensures
    rw c.read_word-4.ensures rw c.read_word-5.ensures rw c.read_word-6.ensures refl
