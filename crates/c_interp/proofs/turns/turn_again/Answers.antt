use Rattle.std.proofs.Common.{◌∙◌, refl, sym, ap}
use Rattle.c_mean.specs.Statements.{normal}
use Rattle.c_interp_def.specs.Configurations.{reaches}
use Rattle.c_interp.specs.Steps.{asked_do}
use Rattle.std.specs.Prelude.{Some}
use Rattle.c_interp_def.specs.StmtTasks as stmt
use Rattle.c_interp_def.specs.StmtTasks.{stmt_task_run}
use Rattle.c_interp.proofs.ExprSteps.{unknown_step}
use Rattle.c_interp.proofs.StmtSteps.{asked_true, asked_false}
use Rattle.c_interp.proofs.Steps.{none_taken}
use Rattle.c_interp.proofs.turns.turn_again.Goals as goal

pub returns-in_default : goal.returns-in_default
returns-in_default c = λ p n. none_taken p n c.args.machine.now c.args.machine.now (asked_do c.args.t.now (stmt_task_run p n (stmt.run_turns c.args.turns c.args.a.now))) c.in_default.ensures.cases.0 (λ x. refl)

pub returns-in-Some-true : goal.returns-in-Some-true
returns-in-Some-true c = λ p n. asked_true p n c.put.result c.args.machine.now c.put.new.machine c.pop.new.self c.in-Some.v c.args.t.now (stmt_task_run p n (stmt.run_turns c.args.turns c.args.a.now)) c.in-Some.ensures.items (ap Some (sym c.in-Some-true.field-0-test) ∙ c.in-Some-true.ensures) (c.put.ensures p n)

pub returns-in-Some-false : goal.returns-in-Some-false
returns-in-Some-false c = λ p n. asked_false p n _ c.args.machine.now c.pop.new.self c.in-Some.v c.args.t.now (stmt_task_run p n (stmt.run_turns c.args.turns c.args.a.now)) c.requires c.in-Some.ensures.items (ap Some (sym c.in-Some-false.field-0-test) ∙ c.in-Some-false.ensures)

pub returns-in-None : goal.returns-in-None
returns-in-None c = λ p n. unknown_step p n c.args.machine.now c.args.machine.now c.pop.new.self c.in-Some.v c.args.t.now (asked_do c.args.t.now (stmt_task_run p n (stmt.run_turns c.args.turns c.args.a.now))) (stmt_task_run p n (stmt.run_turns c.args.turns c.args.a.now)) (reaches normal) c.in-Some.ensures.items c.in-None.ensures (λ x vs. refl)
