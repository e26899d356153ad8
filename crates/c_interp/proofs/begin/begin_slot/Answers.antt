use Rattle.std.proofs.Common.{take, ◌-◌, ◌∷◌, ◌++◌, ◌∙◌, [], refl, sym, ap}
use Rattle.c_mean.specs.Statements.{newest_written}
use Rattle.c_interp_store.specs.Operators.{used_value}
use Rattle.c_interp_def.specs.Configurations.{goes_on_at, state_of, with_operands}
use Rattle.c_interp_def.specs.declared.task.Slot.TheVariants.{Holds}
use Rattle.c_interp_def.specs.StmtTasks as stmt
use Rattle.c_interp_def.specs.StmtTasks.{stmt_task_run}
use Rattle.c_interp.proofs.StmtSteps.{used-is, no_operand, slot_begun_step}
use Rattle.c_interp.proofs.Steps.{none_taken}
use Rattle.c_interp.proofs.begin.begin_slot.Goals as goal

pub returns-in_default : goal.returns-in_default
returns-in_default c = λ p n. none_taken p n c.args.machine.now c.args.machine.now (stmt_task_run p n stmt.begin_slot) c.in_default.ensures.cases.0 (λ x. refl)

pub returns-in_default-used : goal.returns-in_default-used
returns-in_default-used c = λ p n. no_operand p n c.args.machine.now c.args.machine.now c.pop.new.self c.in-Some.v (used_value c.in-Some.v) (stmt_task_run p n stmt.begin_slot) (λ x w. goes_on_at x (newest_written (state_of x) w)) c.in-Some.ensures.items
    (sym c.in_default-used.ensures) (λ x vs. used-is c.in-Some.v (λ w. goes_on_at (with_operands x vs) (newest_written (state_of (with_operands x vs)) w)))

pub returns : goal.returns
returns c = λ p n. slot_begun_step p n _ c.args.machine.now c.pop.new.self c.push.new.self c.in-Some.v c.in-Some-used.w c.requires c.in-Some.ensures.items (sym c.in-Some-used.ensures)
    (c.in_ok-push.ensures.items ∙ ap (λ l. l ++ Holds c.in-Some-used.w ∷ []) (c.pop-2.ensures.rest ∙ ap (λ k. take (k - 1) c.args.machine.now.slots.items) c.args.machine.now.slots.ok.0))
