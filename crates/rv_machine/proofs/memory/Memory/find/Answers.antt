use Rattle.std.proofs.Common.{sym}
use Rattle.rv_machine.proofs.Found.{block_of, outside_of}
use Rattle.rv_machine.proofs.memory.Memory.find.Goals as goal

pub returns-in_err-block_at : goal.returns-in_err-block_at
returns-in_err-block_at c =
    rw c.from_residual.ensures (outside_of c.args.self.now c.args.address c.in_err-block_at.ensures)

pub returns : goal.returns
returns c =
    block_of c.args.self.now c.args.address c.in_ok-block_at.field-0 c.index.result.now c.args.self.now.apart
    c.in_ok-block_at.ensures.0 (sym c.index.ensures)
    (rw c.index.ensures (c.in_ok-block_at.ensures.1 c.index.result.now))
