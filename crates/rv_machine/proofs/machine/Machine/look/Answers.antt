use Rattle.std.proofs.Common.{get_or, ap, ◌∙◌}
use Rattle.rv_machine.proofs.Decoded.{look-zero}
use Rattle.rv_machine.proofs.machine.Machine.look.Goals as goal

pub returns : goal.returns
returns c =
    ap (λ n. get_or c.args.self.now.registers n 0) c.number.ensures.value
    ∙ look-zero c.args.self.now.registers c.args.r c.args.self.now.zero
