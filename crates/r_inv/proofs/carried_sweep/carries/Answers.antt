use Rattle.std.proofs.Common.{ap, arith}
use Rattle.r_inv.specs.Cost.{asked}
use Rattle.r_inv.proofs.Asked.{other_theta}
use Rattle.r_inv.proofs.carried_sweep.carries.Goals as goal

pub kept-requires-clause-theta : goal.kept-requires-clause-theta
kept-requires-clause-theta g c = other_theta c.args.shape.op c.requires.op c.in_default.not-Gamma

pub returns-in_default-clause-looks : goal.returns-in_default-clause-looks
returns-in_default-clause-looks g c =
    omega (arith, ap (λ op. asked op c.args.shape.regions) (other_theta c.args.shape.op c.requires.op c.in_default.not-Gamma))
