use Rattle.std.proofs.Common.{◌∙◌, sym, ap₂}
use Rattle.std.proofs.lemmas.List.{length-map}
use Rattle.c_interp_def.specs.Laws.{normally}
use Rattle.c_interp_def.specs.StmtTasks.{items_tasks, tasks_run, stmt_task_run}
use Rattle.c_interp_answer.specs.TaskViews.{slot_of}
use Rattle.c_interp_def.proofs.StmtLaws.{items-expand}
use Rattle.c_typed.specs.StmtViews.{items_of}
use Rattle.c_interp_def.specs.StmtTasks as stmt
use Rattle.c_interp.specs.Machines.{config_of}
use Rattle.c_interp.proofs.Steps.{put_step}
use Rattle.c_interp.proofs.statement.expand_items.Goals as goal

pub returns : goal.returns
returns c = λ n.
    let p = c.args.program.now.typed.now in
    put_step p n _ c.args.machine.now c.run_items.new.tasks _ (stmt_task_run p n (stmt.run_items (items_of c.args.items.now))) c.requires.normal c.in_ok-run_items.ensures
    (λ m i. items-expand p n (items_of c.args.items.now) (config_of c.args.machine.now m i)
    ∙ ap₂ (λ vs k. tasks_run p n (items_tasks vs k (items_of c.args.items.now)) (normally (config_of c.args.machine.now m i))) (sym c.variables.ensures) (length-map c.args.machine.now.slots.items slot_of ∙ sym c.args.machine.now.slots.ok.0 ∙ sym c.len-count.ensures))
