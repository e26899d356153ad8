use Rattle.std.proofs.Common.{subst}
use Rattle.val_core.specs.Memory.{cleared_at}
use Rattle.c_interp_store.specs.Holding.{IsChanged}
use Rattle.c_interp.proofs.StmtSteps.{cleared_step, not_cleared_step}
use Rattle.c_interp.proofs.begin.clear_object.Goals as goal

pub returns-then-clear : goal.returns-then-clear
returns-then-clear c = λ n. cleared_step c.args.program.now.typed.now n _ c.args.machine.now c.clear.new.self c.args.number c.object_at-at.result c.requires.normal c.object_at-at.ensures (λ calls m h. subst (λ d. IsChanged calls (cleared_at c.object_at-at.result m) c.clear.new.self d) c.if-clear.true (c.clear.ensures calls m h))

pub returns-else-clear : goal.returns-else-clear
returns-else-clear c = λ n. not_cleared_step c.args.program.now.typed.now n c.args.machine.now c.args.machine.now c.clear.new.self c.args.number c.object_at-at.result c.object_at-at.ensures (λ calls m h. subst (λ d. IsChanged calls (cleared_at c.object_at-at.result m) c.clear.new.self d) c.if-clear.false (c.clear.ensures calls m h))
