use Rattle.std.proofs.Common.{arith}
use Rattle.elf_file.proofs.SoundLemmas.{is_sound}
use Rattle.elf_file.proofs.view.ImageView.header_count.Goals as goal

pub read_half-requires : goal.read_half-requires
read_half-requires c = let headed = (is_sound c.args.self.now.bytes.now c.args.self.now.sound).headed in omega arith
