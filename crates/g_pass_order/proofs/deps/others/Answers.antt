use Rattle.std.proofs.lemmas.List.Elements.{Contains-get_or}
use Rattle.g_pass_order.proofs.deps.others.Goals as goal

pub bounds-unit-callee : goal.bounds-unit-callee
bounds-unit-callee c = c.requires.known _ (Contains-get_or c.args.called.now c.loop-callee.callee-index 0 c.loop-callee-test.true)
