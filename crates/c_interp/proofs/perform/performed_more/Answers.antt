use Rattle.std.proofs.Common.{◌≡◌, ◌∙◌, sym, ap, subst}
use Rattle.c_typed.specs.Typed.{ExprTree, expr, assign, inc_dec, some_expr}
use Rattle.c_typed.specs.ExprViews.{form_of}
use Rattle.c_typed.specs.WellTyped.{type_of}
use Rattle.c_interp_answer.proofs.Arms.{form_in, whole}
use Rattle.c_interp_def.specs.StmtTasks.{optional_tasks}
use Rattle.c_interp.specs.Steps.{IsPerformed, tasks_do}
use Rattle.c_interp.proofs.perform.performed_more.Goals as goal

pub returns-in-Assign : goal.returns-in-Assign
returns-in-Assign c = λ n.
    let p = c.args.program.now.typed.now in
    let t = c.deref.result.now in
    let q = c.in-Assign.p in
    let a = c.deref-in-Assign.result.now in
    let here : c.args.e.now ≡ expr t (assign q a) =
    whole c.args.e.now t (assign q a) (c.deref.ensures ∙ ap type_of c.e.view_is) (sym (ap form_in c.e.view_is) ∙ ap form_of c.in-Assign.is ∙ ap (λ z. assign q z) (sym c.deref-in-Assign.ensures)) in
    subst (λ (e : ExprTree). IsPerformed p n c.assigned.result c.args.machine.now c.assigned.new.machine (tasks_do p n (optional_tasks (some_expr e)))) (sym here) (c.assigned.ensures n)

pub returns-in-IncDec : goal.returns-in-IncDec
returns-in-IncDec c = λ n.
    let p = c.args.program.now.typed.now in
    let t = c.deref-in-IncDec.result.now in
    let i = c.in-IncDec.step in
    let q = c.in-IncDec.p in
    let here : c.args.e.now ≡ expr t (inc_dec i q) =
    whole c.args.e.now t (inc_dec i q) (c.deref-in-IncDec.ensures ∙ ap type_of c.e.view_is) (sym (ap form_in c.e.view_is) ∙ ap form_of c.in-IncDec.is) in
    subst (λ (e : ExprTree). IsPerformed p n c.stepped.result c.args.machine.now c.stepped.new.machine (tasks_do p n (optional_tasks (some_expr e)))) (sym here) (c.stepped.ensures p n)
