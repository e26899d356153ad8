use Rattle.std.proofs.Common.{◌∙◌, refl, ap}
use Rattle.c_mean.specs.State.{bytes_into}
use Rattle.c_interp_def.specs.StmtTasks as stmt
use Rattle.c_interp_def.specs.StmtTasks.{stmt_task_run}
use Rattle.c_interp.proofs.StmtSteps.{element_step}
use Rattle.c_interp.proofs.Steps.{none_taken}
use Rattle.c_interp.proofs.begin.begin_element.Goals as goal

pub returns-in_default : goal.returns-in_default
returns-in_default c = λ n. none_taken c.args.program.now.typed.now n c.args.machine.now c.args.machine.now (stmt_task_run c.args.program.now.typed.now n (stmt.begin_element c.args.number c.args.offset c.args.t.now)) c.in_default.ensures.cases.0 (λ x. refl)

pub returns : goal.returns
returns c = λ n. element_step c.args.program.now.typed.now n c.store.result c.args.machine.now c.store.new.machine c.pop.new.self c.in-Some.v c.args.number c.args.offset c.args.t.now c.in-Some-bytes_into.at c.used.result c.in-Some.ensures.items
    (c.in-Some-bytes_into.ensures ∙ ap (λ a. bytes_into a c.args.offset) c.object_at.ensures) c.used.ensures (c.store.ensures c.args.program.now.typed.now n)
