use Rattle.std.proofs.Common.{sym, arith, rules}
use Rattle.rv_machine.specs.Blocks.{allowance_of}
use Rattle.rv_machine.proofs.Access.{allowed_all, allowed_bad}
use Rattle.rv_machine.proofs.memory.Memory.all_allow.Goals as goal

pub returns-then-not-allows : goal.returns-then-not-allows
returns-then-not-allows c =
    sym (allowed_bad (allowance_of c.args.self.now) c.args.flag c.args.address c.args.width c.loop-i.i (omega arith) (search rules))

pub returns : goal.returns
returns c =
    sym (allowed_all (allowance_of c.args.self.now) c.args.flag c.args.address c.args.width (λ j below. c.loop-i.invariant j (omega arith)))
