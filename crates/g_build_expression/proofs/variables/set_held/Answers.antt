use Rattle.std.proofs.Common.{arith}
use Rattle.g_build_expression.proofs.lemmas.Scopes.{set_one, set_past}
use Rattle.g_build_expression.proofs.variables.set_held.Goals as goal

pub returns-then-place-len : goal.returns-then-place-len
returns-then-place-len c = let h = c.index-old.ensures in let e = c.with_origin.ensures in set_one c.args.all.now.items c.args.place c.index-old.result.now c.with_origin.result c.args.origin h e

pub returns-else-place-len : goal.returns-else-place-len
returns-else-place-len c = set_past c.args.all.now.items c.args.place c.args.origin (omega (arith, c.if-place-len.false, c.len.ensures))
