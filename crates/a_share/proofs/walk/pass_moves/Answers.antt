use Rattle.std.proofs.Common.{◌∙◌, map, refl, arith}
use Rattle.s_linear.specs.Views.{line_of}
use Rattle.a_share.proofs.Moving.{pass_first, pass_next, pass_last}
use Rattle.a_share.proofs.walk.pass_moves.Goals as goal

pub moves-init : goal.moves-init
moves-init c = record {
  passed = λ is s n. pass_first (map line_of c.args.lines.now) c.args.jump c.args.bound c.args.needs.now is s;
  low = λ h. h;
  high = omega arith;
  depths = refl;
  copies = refl;
}

pub moves-preserved : goal.moves-preserved
moves-preserved c =
    let before = c.moves.invariant in
    let step = c.in_ok-pass_at.ensures in
    record {
      passed = λ is s n.
          pass_next (map line_of c.args.lines.now) c.args.bound c.args.back c.moves.at c.args.jump c.args.needs.now c.moves.needs c.pass_at.new.self is c.moves-test.true
          before.high n (λ js t. before.passed js t n) step.passed s;
      low = λ h. omega (arith, c.moves-test.true);
      high = omega (arith, before.high);
      depths = step.depths ∙ before.depths;
      copies = step.copies ∙ before.copies;
    }

pub returns-clause-passed : goal.returns-clause-passed
returns-clause-passed c = λ is s n.
    pass_last (map line_of c.args.lines.now) c.args.bound c.args.back c.moves.at c.args.jump c.args.needs.now c.moves.needs is c.moves-test.false c.moves.invariant.low s
    (λ js t. c.moves.invariant.passed js t n)
