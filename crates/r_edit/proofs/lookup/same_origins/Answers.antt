use Rattle.std.proofs.Common.{sym, arith}
use Rattle.std.proofs.lemmas.Bool.Decides.{nat_tests}
use Rattle.r_edit.proofs.lemmas.Lookup.{unequal_lengths}
use Rattle.r_edit.proofs.lookup.same_origins.Goals as goal

pub returns-then-a-b : goal.returns-then-a-b
returns-then-a-b c = sym (unequal_lengths c.args.a.now c.args.b.now (λ e. absurd (grind (arith, nat_tests, e, c.if-a-b.true))))
