use Rattle.std.proofs.Common.{◌≡◌, ◌∙◌, sym, ap, ap₂}
use Rattle.c_typed.specs.Typed as tree
use Rattle.c_typed.specs.StmtViews.{stmt_of}
use Rattle.c_typed.specs.WellTyped.{type_of}
use Rattle.c_mean.specs.State.{truth}
use Rattle.c_interp_def.specs.StmtTasks as stmt
use Rattle.c_interp_def.specs.StmtTasks.{stmt_task_run}
use Rattle.c_interp.specs.Machines.{config_of}
use Rattle.c_interp.proofs.StmtSteps.{branch_step}
use Rattle.c_interp.proofs.Steps.{same_step}
use Rattle.c_interp.proofs.statement.branch.Goals as goal

pub returns : goal.returns
returns c = λ p n.
    let e = c.in-IfElse.e in
    let a = c.deref-2.result.now in
    let b = c.deref-3.result.now in
    let here : c.args.a.now ≡ tree.if_else e a b = sym c.a.view_is ∙ ap stmt_of c.in-IfElse.is ∙ ap₂ (λ s t. tree.if_else e s t) (sym c.deref-2.ensures) (sym c.deref-3.ensures) in
    same_step p n c.choose.result c.args.machine.now c.choose.new.machine (stmt_task_run p n (stmt.branch c.args.a.now)) (stmt_task_run p n (stmt.branch (tree.if_else e a b)))
    (λ m i held. ap (λ s. stmt_task_run p n (stmt.branch s) (config_of c.args.machine.now m i)) here)
    (branch_step p n c.choose.result c.args.machine.now c.choose.new.machine c.pop.new.self c.in-Some.v e a b c.truth.result c.in-Some.ensures.items
    (c.truth.ensures ∙ ap (λ t. truth t c.in-Some.v) (c.deref.ensures ∙ ap type_of c.e.view_is)) (c.choose.ensures p n))
