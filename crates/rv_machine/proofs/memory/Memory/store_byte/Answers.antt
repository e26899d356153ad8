use Rattle.std.proofs.Common.{sym, ap, ◌∙◌}
use Rattle.std.proofs.lemmas.Bool.{both_ways}
use Rattle.rv_machine.specs.Blocks.{bytes_of, allowance_of, IsOutside}
use Rattle.rv_machine.specs.Memory.{has_flag, store_bytes}
use Rattle.rv_machine.proofs.Access.{allowed-one}
use Rattle.rv_machine.proofs.Found.{outside_of}
use Rattle.rv_machine.proofs.HeldBlocks.{zero_flags}
use Rattle.rv_machine.proofs.Writes.{store-one}
use Rattle.rv_machine.proofs.memory.Memory.store_byte.Goals as goal

pub unreachable-requires : goal.unreachable-requires
unreachable-requires c =
    let out : IsOutside c.args.self.now c.args.address = outside_of c.args.self.now c.args.address c.in-None.ensures in
    both_ways (has_flag (allowance_of c.args.self.now c.args.address) 2)
    (ap (λ f. has_flag f 2) out.flags ∙ zero_flags 2)
    (sym (allowed-one (allowance_of c.args.self.now) 2 c.args.address) ∙ c.requires)

pub returns-clause-bytes : goal.returns-clause-bytes
returns-clause-bytes c =
    c.write_in.ensures.bytes
    ∙ ap (λ n. store_bytes (bytes_of c.args.self.now) c.args.address n 1) c.from.ensures
    ∙ store-one (bytes_of c.args.self.now) c.args.address c.args.byte c.ranges.byte.fits
