use Rattle.std.proofs.Common.{◌≡◌, ◌+◌, ◌-◌}
use Rattle.rv_machine.specs.Block.{SameBounds}
use Rattle.rv_machine.specs.Memory.{written}
use Rattle.rv_machine.proofs.block.Block.write.Given as goal

abbrev pub invariant-loop-i : goal.invariant-loop-i
invariant-loop-i l = record {
  same_bytes : written l.self.bytes.items l.i l.rest (l.at + l.width - l.i) ≡ written l.fn.self.bytes.items l.at l.word l.width;
  bounds : SameBounds l.fn.self l.self;
}
