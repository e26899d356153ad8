use Rattle.elf_file.specs.Loading.{executable}
use Rattle.std.proofs.Common.{arith}
use Rattle.elf_file.proofs.SoundLemmas.{is_sound}
use Rattle.elf_file.proofs.view.ImageView.entry.Goals as goal

pub read_word-requires : goal.read_word-requires
read_word-requires c = let headed = (is_sound c.args.self.now.bytes.now c.args.self.now.sound).headed in omega arith

pub returns : goal.returns
unfolding executable
returns c = c.read_word.ensures
