use Rattle.std.proofs.Common.{◌≡◌, map, take}
use Rattle.elf_file.specs.ImageView.{executable_of}
use Rattle.rv_machine.specs.Block.{segment_of, padded}
use Rattle.rv_machine.proofs.memory.Memory.new.Given as goal

abbrev pub invariant-loop-k : goal.invariant-loop-k
invariant-loop-k l = map segment_of l.blocks.items ≡ map padded (take l.k (executable_of l.view).segments)
