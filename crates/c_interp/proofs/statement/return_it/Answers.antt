use Rattle.std.proofs.Common.{refl, sym}
use Rattle.c_mean.specs.Statements.{returned}
use Rattle.c_interp_store.specs.Operators.{used_value}
use Rattle.c_interp_def.specs.Configurations.{reaches, with_operands}
use Rattle.std.specs.Prelude.{Some}
use Rattle.c_interp_def.specs.StmtTasks as stmt
use Rattle.c_interp_def.specs.StmtTasks.{stmt_task_run}
use Rattle.c_interp.proofs.StmtSteps.{used-is, no_operand, return_step}
use Rattle.c_interp.proofs.Steps.{none_taken}
use Rattle.c_interp.proofs.statement.return_it.Goals as goal

pub returns-in_default : goal.returns-in_default
returns-in_default c = λ p n. none_taken p n c.args.machine.now c.args.machine.now (stmt_task_run p n stmt.return_it) c.in_default.ensures.cases.0 (λ x. refl)

pub returns-in_default-used : goal.returns-in_default-used
returns-in_default-used c = λ p n. no_operand p n c.args.machine.now c.args.machine.now c.pop.new.self c.in-Some.v (used_value c.in-Some.v) (stmt_task_run p n stmt.return_it) (λ x w. reaches (returned (Some w)) x) c.in-Some.ensures.items
    (sym c.in_default-used.ensures) (λ x vs. used-is c.in-Some.v (λ w. reaches (returned (Some w)) (with_operands x vs)))

pub returns : goal.returns
returns c = λ p n. return_step p n _ c.args.machine.now c.pop.new.self c.in-Some.v c.in-Some-used.w c.in-Some.ensures.items (sym c.in-Some-used.ensures)
