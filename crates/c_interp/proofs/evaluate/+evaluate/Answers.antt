-- Expressions and arguments, of which each is given at once or becomes tasks.
use Rattle.std.specs.Prelude.{Ok, Err}
use Rattle.c_interp.specs.declared.stop.Stop.TheVariants.{Undefined}
use Rattle.std.proofs.Common.{rules, ◌≡◌, ◌∙◌, length, refl, sym, ap, ap₂, subst}
use Rattle.val_core.specs.Answers.{then_on}
use Rattle.c_typed.specs.ExprViews.{form_of, place_form_of}
use Rattle.c_typed.specs.Typed.{ExprTree, FormTree, expr, read, unary, binary, logical_and, logical_or, conditional, assign, inc_dec, call, at, member, exprs_of}
use Rattle.c_typed.specs.WellTyped.{type_of}
use Rattle.c_interp_answer.proofs.Arms.{form_in, whole}
use Rattle.c_interp_answer.proofs.Pushed.{count_is}
use Rattle.c_interp_def.specs.declared.task.ExprTask.TheVariants.{Evaluate, PassEach, UseIt, Call, MemberAt, StoreSlot, StoreAt, LoadFrom}
use Rattle.c_interp_def.specs.declared.task.Task.TheVariants.{OfExpr}
use Rattle.c_interp_def.specs.ExprTasks as task
use Rattle.c_interp_def.specs.ExprTasks.{expr_task_run}
use Rattle.c_interp_def.specs.StmtTasks.{of_expr, task_run}
use Rattle.c_interp.specs.Steps.{IsStep, passed_run}
use Rattle.c_interp.proofs.Steps.{with_ops, with_tasks}
use Rattle.c_interp.proofs.AtOnce.{put_then, is-zero, known_step, located_step}
use Rattle.c_interp.proofs.Unknown.{unary_put, tested_put, not_tested, and_put, or_put, and_true, and_false, or_true, or_false, read_put, assign_slot, assign_put, passed_value, not_passed, at_put, member_put, located_then, type_in, place_form_in, place-whole}
use Rattle.c_interp.proofs.Evaluated.{chosen_step, other_step, choose_put, operated_step, operand_step, operate_put, call_put, pass_put, pass_none, pass_last}
use Rattle.c_interp.proofs.evaluate.+evaluate.Goals as goal

-- ---- by the form of the expression

pub evaluate_to-returns-in-Some : goal.evaluate_to-returns-in-Some
evaluate_to-returns-in-Some m c = λ n.
    let p = c.args.program.now.typed.now in
    known_step p n c.give_value.result c.args.machine.now c.give_value.new.machine c.args.e.now c.in-Some.v (c.in-Some.ensures n) (c.give_value.ensures p n)

pub unknown_to-returns-then-depth-eq0 : goal.unknown_to-returns-then-depth-eq0
unknown_to-returns-then-depth-eq0 m c = λ n. c.expand.ensures c.args.program.now.typed.now n

pub unknown_to-returns-in_default : goal.unknown_to-returns-in_default
unknown_to-returns-in_default m c = λ n. c.expand-in_default.ensures c.args.program.now.typed.now n

pub unknown_to-returns-in-Call : goal.unknown_to-returns-in-Call
unknown_to-returns-in-Call m c = λ n.
    let p = c.args.program.now.typed.now in
    let e = c.args.e.now in
    let f : FormTree = call c.in-Call.f (exprs_of c.deref.result.now) in
    let here : e ≡ expr (type_of e) f =
    whole e (type_of e) f refl (sym (ap form_in c.e.view_is) ∙ ap form_of c.in-Call.is ∙ ap (λ l. call c.in-Call.f (exprs_of l)) (sym c.deref.ensures.value)) in
    subst (λ (z : ExprTree). IsStep p n c.call_to.result c.args.machine.now c.call_to.new.machine (expr_task_run p n (task.evaluate z))) (sym here) (c.call_to.ensures (type_of e) n)

pub unknown_to-returns-in-Conditional : goal.unknown_to-returns-in-Conditional
unknown_to-returns-in-Conditional m c = λ n.
    let p = c.args.program.now.typed.now in
    let e = c.args.e.now in
    let arm = c.in-Conditional in
    let d = c.deref-in-Conditional.result.now in
    let a = c.deref-in-Conditional-2.result.now in
    let b = c.deref-in-Conditional-3.result.now in
    let f : FormTree = conditional d a b in
    let here : e ≡ expr (type_of e) f =
    whole e (type_of e) f refl
    (sym (ap form_in c.e.view_is) ∙ ap form_of arm.is ∙ ap (λ z. conditional z arm.a.value arm.b.value) (sym c.deref-in-Conditional.ensures)
    ∙ ap₂ (conditional d) (sym c.deref-in-Conditional-2.ensures) (sym c.deref-in-Conditional-3.ensures)) in
    subst (λ (z : ExprTree). IsStep p n c.choose_to.result c.args.machine.now c.choose_to.new.machine (expr_task_run p n (task.evaluate z))) (sym here) (c.choose_to.ensures (type_of e) n)

pub unknown_to-returns-in-Binary : goal.unknown_to-returns-in-Binary
unknown_to-returns-in-Binary m c = λ n.
    let p = c.args.program.now.typed.now in
    let e = c.args.e.now in
    let o = c.in-Binary.op in
    let f : FormTree = binary o c.deref-in-Binary.result.now c.deref-in-Binary-2.result.now in
    let here : e ≡ expr (type_of e) f =
    whole e (type_of e) f refl (sym (ap form_in c.e.view_is) ∙ ap form_of c.in-Binary.is ∙ ap₂ (binary o) (sym c.deref-in-Binary.ensures) (sym c.deref-in-Binary-2.ensures)) in
    subst (λ (z : ExprTree). IsStep p n c.operate_to.result c.args.machine.now c.operate_to.new.machine (expr_task_run p n (task.evaluate z))) (sym here) (c.operate_to.ensures (type_of e) n)

pub unknown_to-returns-in-Unary : goal.unknown_to-returns-in-Unary
unknown_to-returns-in-Unary m c = λ n.
    let p = c.args.program.now.typed.now in
    let e = c.args.e.now in
    let t = c.deref-in-Unary.result.now in
    let o = c.in-Unary.op in
    let a = c.deref-in-Unary-2.result.now in
    let here : e ≡ expr t (unary o a) =
    whole e t (unary o a) (c.deref-in-Unary.ensures ∙ ap type_of c.e.view_is) (sym (ap form_in c.e.view_is) ∙ ap form_of c.in-Unary.is ∙ ap (unary o) (sym c.deref-in-Unary-2.ensures)) in
    subst (λ (z : ExprTree). IsStep p n c.unary_to.result c.args.machine.now c.unary_to.new.machine (expr_task_run p n (task.evaluate z))) (sym here) (c.unary_to.ensures n)

pub unknown_to-returns-in-LogicalAnd : goal.unknown_to-returns-in-LogicalAnd
unknown_to-returns-in-LogicalAnd m c = λ n.
    let p = c.args.program.now.typed.now in
    let e = c.args.e.now in
    let a = c.deref-in-LogicalAnd.result.now in
    let b = c.deref-in-LogicalAnd-2.result.now in
    let here : e ≡ expr (type_of e) (logical_and a b) =
    whole e (type_of e) (logical_and a b) refl (sym (ap form_in c.e.view_is) ∙ ap form_of c.in-LogicalAnd.is ∙ ap₂ logical_and (sym c.deref-in-LogicalAnd.ensures) (sym c.deref-in-LogicalAnd-2.ensures)) in
    subst (λ (z : ExprTree). IsStep p n c.and_to.result c.args.machine.now c.and_to.new.machine (expr_task_run p n (task.evaluate z))) (sym here) (c.and_to.ensures (type_of e) n)

pub unknown_to-returns-in-LogicalOr : goal.unknown_to-returns-in-LogicalOr
unknown_to-returns-in-LogicalOr m c = λ n.
    let p = c.args.program.now.typed.now in
    let e = c.args.e.now in
    let a = c.deref-in-LogicalOr.result.now in
    let b = c.deref-in-LogicalOr-2.result.now in
    let here : e ≡ expr (type_of e) (logical_or a b) =
    whole e (type_of e) (logical_or a b) refl (sym (ap form_in c.e.view_is) ∙ ap form_of c.in-LogicalOr.is ∙ ap₂ logical_or (sym c.deref-in-LogicalOr.ensures) (sym c.deref-in-LogicalOr-2.ensures)) in
    subst (λ (z : ExprTree). IsStep p n c.or_to.result c.args.machine.now c.or_to.new.machine (expr_task_run p n (task.evaluate z))) (sym here) (c.or_to.ensures (type_of e) n)

pub unknown_to-read_to-requires : goal.unknown_to-read_to-requires
unknown_to-read_to-requires m c = (search rules, (c.requires.laid, (c.requires.normal, whole c.args.e.now c.deref-in-Read.result.now (read c.in-Read.p) (c.deref-in-Read.ensures ∙ ap type_of c.e.view_is) (sym (ap form_in c.e.view_is) ∙ ap form_of c.in-Read.is))))

pub unknown_to-returns-in-Assign : goal.unknown_to-returns-in-Assign
unknown_to-returns-in-Assign m c = λ n.
    let p = c.args.program.now.typed.now in
    let e = c.args.e.now in
    let t = c.deref-in-Assign.result.now in
    let q = c.in-Assign.p in
    let a = c.deref-in-Assign-2.result.now in
    let here : e ≡ expr t (assign q a) =
    whole e t (assign q a) (c.deref-in-Assign.ensures ∙ ap type_of c.e.view_is) (sym (ap form_in c.e.view_is) ∙ ap form_of c.in-Assign.is ∙ ap (λ z. assign q z) (sym c.deref-in-Assign-2.ensures)) in
    subst (λ (z : ExprTree). IsStep p n c.assign_to.result c.args.machine.now c.assign_to.new.machine (expr_task_run p n (task.evaluate z))) (sym here) (c.assign_to.ensures n)

pub unknown_to-increment-requires-clause-is : goal.unknown_to-increment-requires-clause-is
unknown_to-increment-requires-clause-is m c =
    let e = c.args.e.now in
    whole e (type_of e) (inc_dec c.in-IncDec.step c.in-IncDec.p) refl (sym (ap form_in c.e.view_is) ∙ ap form_of c.in-IncDec.is)

-- ---- unary and logical operators

pub unary_to-returns : goal.unary_to-returns
unary_to-returns m c = λ n.
    let p = c.args.program.now.typed.now in
    let old = c.args.machine.now in
    unary_put p n c.evaluate_to.result old c.evaluate_to.new.machine c.args.t.now c.args.op c.args.a.now _ c.unary_task.ensures
    (put_then p n c.evaluate_to.result old c.evaluate_to.new.machine c.push.new.self c.unary_task.result (expr_task_run p n (task.evaluate c.args.a.now)) c.in_ok-push.ensures.items (c.evaluate_to.ensures n))

pub and_to-returns-in-Some-true : goal.and_to-returns-in-Some-true
and_to-returns-in-Some-true m c = λ t n.
    and_true c.args.program.now.typed.now n c.test_to.result c.args.machine.now c.test_to.new.machine t c.args.a.now c.args.b.now c.in-Some-true.field-0 c.in-Some-true.field-0-test (c.in-Some-true.ensures n) (c.test_to.ensures n)

pub and_to-returns-in-Some-false : goal.and_to-returns-in-Some-false
and_to-returns-in-Some-false m c = λ t n.
    let p = c.args.program.now.typed.now in
    and_false p n c.give.result c.args.machine.now c.give.new.machine t c.args.a.now c.args.b.now c.in-Some-false.field-0 c.in-Some-false.field-0-test (c.in-Some-false.ensures n) (c.give.ensures p n)

pub and_to-returns-in_ok-push-in-None : goal.and_to-returns-in_ok-push-in-None
and_to-returns-in_ok-push-in-None m c = λ t n.
    let p = c.args.program.now.typed.now in
    let old = c.args.machine.now in
    and_put p n c.evaluate_to.result old c.evaluate_to.new.machine t c.args.a.now c.args.b.now _ c.and_task.ensures
    (put_then p n c.evaluate_to.result old c.evaluate_to.new.machine c.push.new.self c.and_task.result (expr_task_run p n (task.evaluate c.args.a.now)) c.in_ok-push-in-None.ensures.items (c.evaluate_to.ensures n))

pub or_to-returns-in-Some-true : goal.or_to-returns-in-Some-true
or_to-returns-in-Some-true m c = λ t n.
    let p = c.args.program.now.typed.now in
    or_true p n c.give.result c.args.machine.now c.give.new.machine t c.args.a.now c.args.b.now c.in-Some-true.field-0 c.in-Some-true.field-0-test (c.in-Some-true.ensures n) (c.give.ensures p n)

pub or_to-returns-in-Some-false : goal.or_to-returns-in-Some-false
or_to-returns-in-Some-false m c = λ t n.
    or_false c.args.program.now.typed.now n c.test_to.result c.args.machine.now c.test_to.new.machine t c.args.a.now c.args.b.now c.in-Some-false.field-0 c.in-Some-false.field-0-test (c.in-Some-false.ensures n) (c.test_to.ensures n)

pub or_to-returns-in_ok-push-in-None : goal.or_to-returns-in_ok-push-in-None
or_to-returns-in_ok-push-in-None m c = λ t n.
    let p = c.args.program.now.typed.now in
    let old = c.args.machine.now in
    or_put p n c.evaluate_to.result old c.evaluate_to.new.machine t c.args.a.now c.args.b.now _ c.or_task.ensures
    (put_then p n c.evaluate_to.result old c.evaluate_to.new.machine c.push.new.self c.or_task.result (expr_task_run p n (task.evaluate c.args.a.now)) c.in_ok-push-in-None.ensures.items (c.evaluate_to.ensures n))

pub test_to-test_unary-requires : goal.test_to-test_unary-requires
test_to-test_unary-requires m c =
    let b = c.args.b.now in
    let a = c.deref.result.now in
    (search rules, (c.requires.laid, (c.requires.normal, whole b (type_of b) (unary c.in-Unary.op a) refl (sym (ap form_in c.b.view_is) ∙ ap form_of c.in-Unary.is ∙ ap (unary c.in-Unary.op) (sym c.deref.ensures)))))

pub test_unary-returns-in-LogicalNot : goal.test_unary-returns-in-LogicalNot
test_unary-returns-in-LogicalNot m c = λ n.
    let b = c.args.b.now in
    let a = c.args.a.now in
    not_tested c.args.program.now.typed.now n c.unknown_to.result c.args.machine.now c.unknown_to.new.machine (type_of b) a b (c.requires.is ∙ ap (λ o. expr (type_of b) (unary o a)) c.in-LogicalNot.is)
    (c.unknown_to.ensures n)

pub test_later-returns : goal.test_later-returns
test_later-returns m c = λ n.
    let p = c.args.program.now.typed.now in
    let r = c.unknown_to.result in
    let old = c.args.machine.now in
    let new = c.unknown_to.new.machine in
    tested_put p n r old new (type_of c.args.b.now) c.args.b.now _ c.test_task.ensures
    (put_then p n r old new c.push.new.self c.test_task.result (expr_task_run p n (task.evaluate c.args.b.now)) c.in_ok-push.ensures.items (c.unknown_to.ensures n))

-- ---- `?:`

pub choose_to-returns-in-Some-true : goal.choose_to-returns-in-Some-true
choose_to-returns-in-Some-true m c = λ t n.
    chosen_step c.args.program.now.typed.now n c.evaluate_to.result c.args.machine.now c.evaluate_to.new.machine t c.args.d.now c.args.a.now c.args.b.now c.in-Some-true.field-0 c.in-Some-true.field-0-test
    (c.in-Some-true.ensures n) (c.evaluate_to.ensures n)

pub choose_to-returns-in-Some-false : goal.choose_to-returns-in-Some-false
choose_to-returns-in-Some-false m c = λ t n.
    other_step c.args.program.now.typed.now n c.evaluate_to-in-Some-false.result c.args.machine.now c.evaluate_to-in-Some-false.new.machine t c.args.d.now c.args.a.now c.args.b.now c.in-Some-false.field-0
    c.in-Some-false.field-0-test (c.in-Some-false.ensures n) (c.evaluate_to-in-Some-false.ensures n)

pub choose_to-returns-in_ok-push-in-None : goal.choose_to-returns-in_ok-push-in-None
choose_to-returns-in_ok-push-in-None m c = λ t n.
    let p = c.args.program.now.typed.now in
    let old = c.args.machine.now in
    let new = c.evaluate_to-in-None.new.machine in
    let r = c.evaluate_to-in-None.result in
    choose_put p n r old new t c.args.d.now c.args.a.now c.args.b.now _ c.choice.ensures
    (put_then p n r old new c.push.new.self c.choice.result (expr_task_run p n (task.evaluate c.args.d.now)) c.in_ok-push-in-None.ensures.items (c.evaluate_to-in-None.ensures n))

-- ---- operators

pub operate_to-returns-in_ok-push-in-None-2 : goal.operate_to-returns-in_ok-push-in-None-2
operate_to-returns-in_ok-push-in-None-2 m c = λ t n.
    let p = c.args.program.now.typed.now in
    let old = c.args.machine.now in
    let new = c.evaluate_to.new.machine in
    let r = c.evaluate_to.result in
    let a = c.args.a.now in
    let b = c.args.b.now in
    operate_put p n r old new t c.args.op a b _ c.operation.ensures
    (put_then p n r old new c.push.new.self c.operation.result (λ x. then_on (expr_task_run p n (task.evaluate a) x) (task_run p n (of_expr (task.evaluate b)))) c.in_ok-push-in-None.ensures.items
    (put_then p n r (with_tasks old c.push.new.self) new c.push-in-None.new.self (OfExpr (Evaluate c.args.b)) (expr_task_run p n (task.evaluate a)) c.in_ok-push-in-None-2.ensures.items (c.evaluate_to.ensures n)))

pub operate_on-returns-in-Some : goal.operate_on-returns-in-Some
operate_on-returns-in-Some m c = λ t n.
    operated_step c.args.program.now.typed.now n c.give.result c.args.machine.now c.give.new.machine t c.args.op c.args.a.now c.args.b.now c.args.x c.in-Some.y c.operated-v.result (c.requires.known n)
    (c.in-Some.ensures n) c.operated-v.ensures (c.give.ensures c.args.program.now.typed.now n)

pub operate_on-returns-in_ok-push-in-None-2 : goal.operate_on-returns-in_ok-push-in-None-2
operate_on-returns-in_ok-push-in-None-2 m c = λ t n.
    let p = c.args.program.now.typed.now in
    let old = c.args.machine.now in
    let new = c.evaluate_to.new.machine in
    let r = c.evaluate_to.result in
    let b = c.args.b.now in
    operand_step p n r old new c.push.new.self t c.args.op c.args.a.now b c.args.x _ c.operation.ensures (c.requires.known n) c.in_ok-push-in-None.ensures.items
    (put_then p n r (with_ops old c.push.new.self) new c.push-in-None.new.self c.operation.result (expr_task_run p n (task.evaluate b)) c.in_ok-push-in-None-2.ensures.items (c.evaluate_to.ensures n))

-- ---- calls and arguments

pub call_to-returns : goal.call_to-returns
call_to-returns m c = λ t n.
    let p = c.args.program.now.typed.now in
    let old = c.args.machine.now in
    let new = c.pass_to.new.machine in
    let r = c.pass_to.result in
    let es = exprs_of c.args.es.now in
    call_put p n r old new t c.args.f (length c.args.es.now) es (count_is c.args.es.now)
    (put_then p n r old new c.push.new.self (OfExpr (Call c.args.f (length c.args.es.now))) (expr_task_run p n (task.pass_each es)) c.in_ok-push.ensures.items (c.pass_to.ensures n))

pub pass_to-returns-in-Some : goal.pass_to-returns-in-Some
pass_to-returns-in-Some m c = λ n.
    pass_put c.args.program.now.typed.now n c.pass_first.result c.args.machine.now c.pass_first.new.machine c.args.es.now c.in-Some.e.now c.in-Some.rest.now c.in-Some.ensures.cases.0 (c.pass_first.ensures n)

pub pass_to-returns-in-None : goal.pass_to-returns-in-None
pass_to-returns-in-None m c = λ n. pass_none c.args.program.now.typed.now n _ c.args.machine.now c.args.es.now c.requires.normal c.in-None.ensures.cases

pub pass_first-returns-in-Some : goal.pass_first-returns-in-Some
pass_first-returns-in-Some m c = c.pass_value.ensures

pub pass_value-returns-in_default : goal.pass_value-returns-in_default
pass_value-returns-in_default m c = λ n.
    not_passed c.args.program.now.typed.now n (Err Undefined) c.args.machine.now c.args.machine.now (type_of c.args.e.now) c.args.e.now (exprs_of c.args.rest.now) c.args.v (c.requires.known n) c.in_default.ensures

pub pass_value-returns-then-depth-eq0 : goal.pass_value-returns-then-depth-eq0
pass_value-returns-then-depth-eq0 m c = λ n.
    let p = c.args.program.now.typed.now in
    passed_value p n c.put.result c.args.machine.now c.put.new.machine (type_of c.args.e.now) c.args.e.now (exprs_of c.args.rest.now) c.push.new.self c.args.v c.in-Some.w (c.requires.known n) c.in-Some.ensures
    c.in_ok-push.ensures.items (c.put.ensures p n)

pub pass_value-returns-then-is_empty : goal.pass_value-returns-then-is_empty
pass_value-returns-then-is_empty m c = λ n.
    let p = c.args.program.now.typed.now in
    let old = c.args.machine.now in
    passed_value p n (Ok tt) old (with_ops old c.push.new.self) (type_of c.args.e.now) c.args.e.now (exprs_of c.args.rest.now) c.push.new.self c.args.v c.in-Some.w (c.requires.known n) c.in-Some.ensures
    c.in_ok-push.ensures.items
    (pass_none p n tt (with_ops old c.push.new.self) c.args.rest.now c.requires.normal (is-zero _ (sym c.is_empty.ensures ∙ c.if-is_empty.true)))

pub pass_value-returns : goal.pass_value-returns
pass_value-returns m c = λ n.
    let p = c.args.program.now.typed.now in
    passed_value p n c.pass_to.result c.args.machine.now c.pass_to.new.machine (type_of c.args.e.now) c.args.e.now (exprs_of c.args.rest.now) c.push.new.self c.args.v c.in-Some.w (c.requires.known n) c.in-Some.ensures
    c.in_ok-push.ensures.items (c.pass_to.ensures n)

pub pass_later-returns-then-is_empty : goal.pass_later-returns-then-is_empty
pass_later-returns-then-is_empty m c = λ n.
    pass_last c.args.program.now.typed.now n c.pass_one.result c.args.machine.now c.pass_one.new.machine c.args.e.now c.args.rest.now (is-zero _ (sym c.is_empty.ensures ∙ c.if-is_empty.true)) (c.pass_one.ensures n)

pub pass_later-returns : goal.pass_later-returns
pass_later-returns m c = λ n.
    let p = c.args.program.now.typed.now in
    put_then p n c.pass_one-2.result c.args.machine.now c.pass_one-2.new.machine c.push.new.self (OfExpr (PassEach c.args.rest)) (passed_run p n c.args.e.now) c.in_ok-push.ensures.items (c.pass_one-2.ensures n)

pub pass_one-returns : goal.pass_one-returns
pass_one-returns m c = λ n.
    let p = c.args.program.now.typed.now in
    put_then p n c.unknown_to.result c.args.machine.now c.unknown_to.new.machine c.push.new.self (OfExpr UseIt) (expr_task_run p n (task.evaluate c.args.e.now)) c.in_ok-push.ensures.items (c.unknown_to.ensures n)

-- ---- places, reads and assignments

pub locate_to-returns-in-Some : goal.locate_to-returns-in-Some
locate_to-returns-in-Some m c = λ n.
    let p = c.args.program.now.typed.now in
    located_step p n c.give_value.result c.args.machine.now c.give_value.new.machine c.args.q.now c.in-Some.at (c.in-Some.ensures n) (c.give_value.ensures p n)

pub find_to-returns-then-depth-eq0 : goal.find_to-returns-then-depth-eq0
find_to-returns-then-depth-eq0 m c = λ n. c.find.ensures c.args.program.now.typed.now n

pub find_to-returns-in_ok-push-in-At : goal.find_to-returns-in_ok-push-in-At
find_to-returns-in_ok-push-in-At m c = λ n.
    let p = c.args.program.now.typed.now in
    let old = c.args.machine.now in
    let new = c.evaluate_to.new.machine in
    let e = c.deref.result.now in
    at_put p n c.evaluate_to.result old new (type_in c.args.q.now) c.args.q.now e
    (place-whole c.args.q.now (at e) (sym (ap place_form_in c.q.view_is) ∙ ap place_form_of c.in-At.is ∙ ap at (sym c.deref.ensures)))
    (put_then p n c.evaluate_to.result old new c.push.new.self (OfExpr UseIt) (expr_task_run p n (task.evaluate e)) c.in_ok-push-in-At.ensures.items (c.evaluate_to.ensures n))

pub find_to-returns-in_ok-push-in-Member : goal.find_to-returns-in_ok-push-in-Member
find_to-returns-in_ok-push-in-Member m c = λ n.
    let p = c.args.program.now.typed.now in
    let old = c.args.machine.now in
    let new = c.locate_to.new.machine in
    let r = c.deref-in-Member.result.now in
    let k = c.in-Member.offset in
    member_put p n c.locate_to.result old new (type_in c.args.q.now) c.args.q.now r k
    (place-whole c.args.q.now (member r k) (sym (ap place_form_in c.q.view_is) ∙ ap place_form_of c.in-Member.is ∙ ap (λ z. member z k) (sym c.deref-in-Member.ensures)))
    (put_then p n c.locate_to.result old new c.push-in-Member.new.self (OfExpr (MemberAt k)) (expr_task_run p n (task.locate r)) c.in_ok-push-in-Member.ensures.items (c.locate_to.ensures n))

pub find_to-returns-in_default : goal.find_to-returns-in_default
find_to-returns-in_default m c = λ n. c.find-in_default.ensures c.args.program.now.typed.now n

pub read_to-returns-in-Some : goal.read_to-returns-in-Some
read_to-returns-in-Some m c = λ n. c.expand.ensures c.args.program.now.typed.now n

pub read_to-returns-in_ok-push-in-None : goal.read_to-returns-in_ok-push-in-None
read_to-returns-in_ok-push-in-None m c = λ n.
    let p = c.args.program.now.typed.now in
    let old = c.args.machine.now in
    let new = c.find_to.new.machine in
    read_put p n c.find_to.result old new c.args.t.now c.args.e.now c.args.p.now c.requires.is c.in-None.ensures
    (put_then p n c.find_to.result old new c.push.new.self (OfExpr (LoadFrom c.args.t)) (expr_task_run p n (task.locate c.args.p.now)) c.in_ok-push-in-None.ensures.items (c.find_to.ensures n))

pub assign_to-returns-in_ok-push-in-Some : goal.assign_to-returns-in_ok-push-in-Some
assign_to-returns-in_ok-push-in-Some m c = λ n.
    let p = c.args.program.now.typed.now in
    let old = c.args.machine.now in
    let new = c.evaluate_to.new.machine in
    assign_slot p n c.evaluate_to.result old new c.args.t.now c.args.p.now c.args.a.now c.in-Some.k c.in-Some.ensures
    (put_then p n c.evaluate_to.result old new c.push.new.self (OfExpr (StoreSlot c.in-Some.k c.args.t)) (expr_task_run p n (task.evaluate c.args.a.now)) c.in_ok-push-in-Some.ensures.items (c.evaluate_to.ensures n))

pub assign_to-returns-in-None : goal.assign_to-returns-in-None
assign_to-returns-in-None m c = λ n.
    assign_put c.args.program.now.typed.now n c.store_to.result c.args.machine.now c.store_to.new.machine c.args.t.now c.args.p.now c.args.a.now c.in-None.ensures (c.store_to.ensures n)

pub store_to-returns-in_ok-push-in-Some : goal.store_to-returns-in_ok-push-in-Some
store_to-returns-in_ok-push-in-Some m c = λ n.
    let p = c.args.program.now.typed.now in
    let old = c.args.machine.now in
    let new = c.evaluate_to.new.machine in
    let q = c.args.p.now in
    let a = c.args.a.now in
    put_then p n c.evaluate_to.result old new c.push.new.self (OfExpr (StoreAt c.args.t)) (λ x. then_on (expr_task_run p n (task.locate q) x) (task_run p n (of_expr (task.evaluate a)))) c.in_ok-push.ensures.items
    (located_then p n c.evaluate_to.result (with_tasks old c.push.new.self) new c.args.t.now q a c.push-in-Some.new.self c.in-Some.at (c.in-Some.ensures n) c.in_ok-push-in-Some.ensures.items (c.evaluate_to.ensures n))

pub store_to-returns-in_ok-push-in-None : goal.store_to-returns-in_ok-push-in-None
store_to-returns-in_ok-push-in-None m c = λ n.
    let p = c.args.program.now.typed.now in
    let old = c.args.machine.now in
    let new = c.find_to.new.machine in
    let q = c.args.p.now in
    let a = c.args.a.now in
    put_then p n c.find_to.result old new c.push.new.self (OfExpr (StoreAt c.args.t)) (λ x. then_on (expr_task_run p n (task.locate q) x) (task_run p n (of_expr (task.evaluate a)))) c.in_ok-push.ensures.items
    (put_then p n c.find_to.result (with_tasks old c.push.new.self) new c.push-in-None.new.self (OfExpr (Evaluate c.args.a)) (expr_task_run p n (task.locate q)) c.in_ok-push-in-None.ensures.items (c.find_to.ensures n))
