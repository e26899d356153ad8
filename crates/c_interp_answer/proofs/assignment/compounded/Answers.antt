use Rattle.std.proofs.Common.{sym, subst}
use Rattle.c_typed.specs.Typed.{expr, compound}
use Rattle.c_interp_answer.specs.Answered.{IsWritten}
use Rattle.c_interp_answer.proofs.assignment.compounded.Goals as goal

pub returns-in-Arithmetic : goal.returns-in-Arithmetic
returns-in-Arithmetic c = λ calls k s sees.
    subst (λ o. IsWritten k (expr c.args.t.now (compound o c.args.p.now c.args.a.now)) s c.calculated.result) (sym c.in-Arithmetic.is) (c.calculated.ensures c.in-Arithmetic.unsigned calls k s sees)
