use Rattle.std.proofs.Common.{◌≡◌, sym, ◌∙◌, arith}
use Rattle.c_lex.specs.Digits as spec
use Rattle.c_lex.proofs.Scans.{value_all}
use Rattle.c_lex.proofs.digits.digits_value.Goals as goal

pub returns : goal.returns
returns c =
    let whole : c.loop-d.value ≡ spec.digits_value c.args.base c.args.digits.now = sym (value_all c.args.base c.loop-d.value c.loop-d.d-index c.args.digits.now c.loop-d-test.false)
    ∙ c.loop-d.invariant.value in
    (omega (arith, c.loop-d.invariant.fits), whole)
