use Rattle.std.proofs.Common.{◌≡◌, ◌+◌, ◌-◌}
use Rattle.rv_machine.specs.Blocks.{bytes_of, allowance_of}
use Rattle.rv_machine.specs.Memory.{store_bytes}
use Rattle.rv_machine.proofs.memory.Memory.store_across.Given as goal

abbrev pub invariant-loop-i : goal.invariant-loop-i
invariant-loop-i l = record {
  bytes : store_bytes (bytes_of l.self) (l.address + l.i) l.rest (l.width - l.i) ≡ store_bytes (bytes_of l.fn.self) l.address l.word l.width;
  flags : allowance_of l.self ≡ allowance_of l.fn.self;
}
