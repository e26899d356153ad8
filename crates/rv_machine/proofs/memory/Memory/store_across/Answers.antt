use Rattle.std.proofs.Common.{sym, ap, ◌∙◌, ◌+◌, ◌-◌, ◌/◌, arith}
use Rattle.rv_machine.specs.Blocks.{bytes_of, allowance_of}
use Rattle.rv_machine.specs.Memory.{allowed, store_bytes}
use Rattle.rv_machine.proofs.Access.{allowed_at, allowed-one}
use Rattle.rv_machine.proofs.Writes.{store_more, store_all}
use Rattle.rv_machine.proofs.memory.Memory.store_across.Goals as goal

pub store_byte-requires : goal.store_byte-requires
store_byte-requires c =
    ap (λ flags. allowed flags 2 (c.args.address + c.loop-i.i) 1) c.loop-i.invariant.flags
    ∙ allowed-one (allowance_of c.args.self.now) 2 (c.args.address + c.loop-i.i)
    ∙ allowed_at (allowance_of c.args.self.now) 2 c.args.address c.args.width c.loop-i.i (omega arith) (sym c.if-not-all_allow.ensures)

pub loop-i-preserved : goal.loop-i-preserved
loop-i-preserved c = record {
  bytes =
      ap (λ mem. store_bytes mem (c.args.address + (c.loop-i.i + 1)) (c.loop-i.rest / 256) (c.args.width - (c.loop-i.i + 1))) c.store_byte.ensures.bytes
      ∙ sym (store_more (bytes_of c.loop-i.self) c.args.address c.loop-i.rest c.args.width c.loop-i.i (omega arith))
      ∙ c.loop-i.invariant.bytes;
  flags = c.store_byte.ensures.flags ∙ c.loop-i.invariant.flags;
}

pub returns-clause-bytes : goal.returns-clause-bytes
returns-clause-bytes c =
    sym (store_all (bytes_of c.loop-i.self) c.args.address c.loop-i.rest c.args.width c.loop-i.i (omega arith)) ∙ c.loop-i.invariant.bytes
