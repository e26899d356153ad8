use Rattle.std.proofs.Common.{◌∙◌, arith}
use Rattle.r_inv.proofs.Asked.{other_theta}
use Rattle.r_inv.proofs.Ports.{gamma_out, theta_out}
use Rattle.r_inv.proofs.moving.move_carried.Goals as goal

pub move_variables-requires-clause-theta : goal.move_variables-requires-clause-theta
move_variables-requires-clause-theta g c = other_theta c.args.shape.op c.requires.op c.in_default.not-Gamma

pub returns-in-Gamma-clause-moved : goal.returns-in-Gamma-clause-moved
returns-in-Gamma-clause-moved g c = λ x e.
    let h = c.requires.shape in
    c.move_exits.ensures.moved
    ∙ (gamma_out c.args.shape c.args.arena.now c.requires.whole h c.args.carried.now (c.requires.carried h.node h.there) c.requires.op x e c.in-Gamma.is).0

pub returns-in-Gamma-clause-looks : goal.returns-in-Gamma-clause-looks
returns-in-Gamma-clause-looks g c = λ x e.
    let h = c.requires.shape in
    omega (
      arith,
      c.move_exits.ensures.looks,
      (gamma_out c.args.shape c.args.arena.now c.requires.whole h c.args.carried.now (c.requires.carried h.node h.there) c.requires.op x e c.in-Gamma.is).1,
    )

pub returns-in_default : goal.returns-in_default
returns-in_default g c =
    let h = c.requires.shape in
    let theta = other_theta c.args.shape.op c.requires.op c.in_default.not-Gamma in
    record {
      moved = λ x e. c.move_variables.ensures.moved
          ∙ (theta_out c.args.shape c.args.arena.now c.requires.whole h c.args.carried.now (c.requires.carried h.node h.there) c.requires.op x e theta).0;
      looks = λ x e. omega (
        arith,
        c.move_variables.ensures.looks,
        (theta_out c.args.shape c.args.arena.now c.requires.whole h c.args.carried.now (c.requires.carried h.node h.there) c.requires.op x e theta).1,
      );
    }
