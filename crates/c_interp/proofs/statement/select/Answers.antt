use Rattle.std.proofs.Common.{◌≡◌, ◌-◌, ◌∙◌, length, take, drop, sym, ap, arith}
use Rattle.std.proofs.lemmas.List.{take_all, length-drop}
use Rattle.c_typed.specs.Typed as tree
use Rattle.c_typed.specs.StmtViews.{stmt_of, groups_of}
use Rattle.c_mean.specs.Statements.{chosen_groups}
use Rattle.c_interp_def.specs.StmtTasks as stmt
use Rattle.c_interp_def.specs.StmtTasks.{stmt_task_run}
use Rattle.c_interp.specs.Machines.{config_of}
use Rattle.c_interp.proofs.StmtSteps.{select_step}
use Rattle.c_interp.proofs.Steps.{same_step}
use Rattle.c_interp.proofs.statement.select.Goals as goal

pub returns : goal.returns
returns c = λ p n.
    let e = c.in-Switch.field-0 in
    let gs = c.in-Switch.groups.items in
    let first = c.chosen-first.result in
    let all = c.deref-2.result.now in
    let rest = take (length all - first) (drop first all) in
    let here : c.args.a.now ≡ tree.switch e (groups_of gs) = sym c.a.view_is ∙ ap stmt_of c.in-Switch.is in
    let whole : rest ≡ drop first all = take_all (length all - first) (drop first all) (omega (arith, length-drop first all)) in
    let chosen : groups_of rest ≡ chosen_groups c.in-Some-number.w (groups_of gs) =
    ap groups_of whole ∙ ap (λ l. groups_of (drop first l)) (c.deref-2.ensures.value ∙ sym c.deref.ensures.value) ∙ c.chosen-first.ensures.chosen
    ∙ ap (λ l. chosen_groups c.in-Some-number.w (groups_of l)) c.deref.ensures.value in
    same_step p n c.put.result c.args.machine.now c.put.new.machine (stmt_task_run p n (stmt.select c.args.a.now)) (stmt_task_run p n (stmt.select (tree.switch e (groups_of gs))))
    (λ m i held. ap (λ s. stmt_task_run p n (stmt.select s) (config_of c.args.machine.now m i)) here)
    (select_step p n c.put.result c.args.machine.now c.put.new.machine c.pop.new.self
    c.in-Some.v c.in-Some-number.w e (groups_of gs) (groups_of rest) c.in-Some.ensures.items
    (sym c.in-Some-number.ensures) chosen (c.put.ensures p n))
