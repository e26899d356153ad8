use Rattle.std.proofs.Common.{arith}
use Rattle.elf_file.proofs.SoundLemmas.{is_sound}
use Rattle.elf_file.proofs.view.ImageView.header.Goals as goal

pub read_word-start-requires : goal.read_word-start-requires
read_word-start-requires c = let headed = (is_sound c.args.self.now.bytes.now c.args.self.now.sound).headed in omega arith

pub overflow_mul-k : goal.overflow_mul-k
overflow_mul-k c = let few = (is_sound c.args.self.now.bytes.now c.args.self.now.sound).few in let below = c.requires in grind arith

pub overflow_add-start : goal.overflow_add-start
overflow_add-start c = let few = (is_sound c.args.self.now.bytes.now c.args.self.now.sound).few in let below = c.requires in grind arith

pub read_program_header-requires : goal.read_program_header-requires
read_program_header-requires c =
    let whole = (is_sound c.args.self.now.bytes.now c.args.self.now.sound).whole in
    let below = c.requires in
    let start = c.read_word-start.ensures in
    omega arith
