use Rattle.std.proofs.Common.{◌≡◌, true, get_or, sym}
use Rattle.rv_machine.specs.Block.{segment_of}
use Rattle.rv_machine.specs.Blocks.{bytes_of, allowance_of}
use Rattle.rv_machine.specs.Memory.{holds}
use Rattle.rv_machine.proofs.Decoded.{text_stays}
use Rattle.rv_machine.proofs.Lookups.{holds-above}
use Rattle.rv_machine.proofs.Writes.{apart-same, flags-write, memory-write}
use Rattle.rv_machine.proofs.memory.Memory.write_in.Goals as goal

pub invariant_of-self : goal.invariant_of-self
invariant_of-self c =
    let m = c.args.self.now in
    let b = c.index_mut-block.result.now in
    let is : get_or m.blocks.items c.args.k b ≡ b = sym c.index_mut-block.ensures.value in
    let held : holds (segment_of b) c.args.address ≡ true = rw c.index_mut-block.ensures.value (c.requires.found.1 b) in
    record {
      apart = apart-same m.blocks.items c.args.k b c.write.new.self is c.write.ensures.bounds m.apart;
      decoded = text_stays (allowance_of m) _ (bytes_of m) _ m.text.at m.text.words.items c.args.address c.args.word c.args.width
          (flags-write m.blocks.items c.args.k b c.write.new.self is c.write.ensures.bounds)
          (memory-write m.blocks.items c.args.k b c.write.new.self c.args.address c.args.word c.args.width m.apart c.requires.found.0 is
          c.write.ensures.bounds c.write.ensures.bytes (holds-above (segment_of b) c.args.address held)
          (rw c.index_mut-block.ensures.value (c.requires.end b)))
          c.requires.allowed m.decoded;
    }

pub returns-clause-bytes : goal.returns-clause-bytes
returns-clause-bytes c =
    memory-write c.args.self.now.blocks.items c.args.k c.index_mut-block.result.now c.write.new.self
    c.args.address c.args.word c.args.width c.args.self.now.apart c.requires.found.0 (sym c.index_mut-block.ensures.value) c.write.ensures.bounds c.write.ensures.bytes
    (holds-above (segment_of c.index_mut-block.result.now) c.args.address (rw c.index_mut-block.ensures.value (c.requires.found.1 c.index_mut-block.result.now)))
    (rw c.index_mut-block.ensures.value (c.requires.end c.index_mut-block.result.now))

pub returns-clause-flags : goal.returns-clause-flags
returns-clause-flags c =
    flags-write c.args.self.now.blocks.items c.args.k c.index_mut-block.result.now c.write.new.self (sym c.index_mut-block.ensures.value) c.write.ensures.bounds
