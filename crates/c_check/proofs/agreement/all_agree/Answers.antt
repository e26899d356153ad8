use Rattle.std.proofs.Common.{sym, arith}
use Rattle.c_check.proofs.AgreeLemmas.{agree-lengths}
use Rattle.c_check.proofs.agreement.all_agree.Goals as goal

pub returns-then-types-params : goal.returns-then-types-params
returns-then-types-params c = sym (agree-lengths c.args.types.now c.args.params.now (λ e. omega (arith, e)))
