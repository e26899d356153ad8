-- What is answered of an expression, by its form.
use Rattle.std.proofs.Common.{◌≡◌, ◌∙◌, refl, sym, ap, ap₂, subst}
use Rattle.std.specs.Prelude.{Some}
use Rattle.c_typed.specs.ExprViews.{form_of}
use Rattle.c_typed.specs.Typed.{ExprTree, FormTree, expr, read, address, unary, binary, logical_and, logical_or, conditional}
use Rattle.c_typed.specs.WellTyped.{type_of}
use Rattle.c_mean.specs.Expressions.{given_word}
use Rattle.c_interp_answer.specs.Answered.{IsWord, IsValue}
use Rattle.c_interp_answer.proofs.Arms.{form_in, whole, address-value, not-word, and-word, and-none, or-one, or-word, chosen-word, other-word, chosen-value, other-value, word-truth}
use Rattle.c_interp_answer.proofs.answered_expression.+answer.Goals as goal

-- ---- truth

pub asked-returns-in-Some-word : goal.asked-returns-in-Some-word
asked-returns-in-Some-word m c = λ calls k s sees. word-truth k s c.args.e.now c.in-Some-word.w (c.in-Some-word.ensures calls k s sees)

pub truth_word-returns-in-Some : goal.truth_word-returns-in-Some
truth_word-returns-in-Some m c = λ calls k s sees. (c.in-Some.d, c.one_if.ensures, c.in-Some.ensures calls k s sees)

-- ---- operators

pub operand-returns-in-None : goal.operand-returns-in-None
operand-returns-in-None m c = λ calls k s sees.
    let e = c.args.e.now in
    let t = c.deref.result.now in
    let f : FormTree = read c.in-Read.p in
    let here : e ≡ expr t f = whole e t f (c.deref.ensures ∙ ap type_of c.e.view_is) (sym (ap form_in c.e.view_is) ∙ ap form_of c.in-Read.is) in
    subst (λ (z : ExprTree). IsWord k z s c.object_word.result) (sym here) (c.object_word.ensures calls k s sees)

pub operand-returns-in-Unary : goal.operand-returns-in-Unary
operand-returns-in-Unary m c = λ calls k s sees.
    let e = c.args.e.now in
    let t = c.deref-in-Unary.result.now in
    let f : FormTree = unary c.in-Unary.op c.deref-in-Unary-2.result.now in
    let here : e ≡ expr t f =
    whole e t f (c.deref-in-Unary.ensures ∙ ap type_of c.e.view_is) (sym (ap form_in c.e.view_is) ∙ ap form_of c.in-Unary.is ∙ ap (unary c.in-Unary.op) (sym c.deref-in-Unary-2.ensures)) in
    subst (λ (z : ExprTree). IsWord k z s c.operand_word.result) (sym here) (c.operand_word.ensures calls k s sees)

pub operand-returns-in-Binary : goal.operand-returns-in-Binary
operand-returns-in-Binary m c = λ calls k s sees.
    let e = c.args.e.now in
    let a = c.deref-in-Binary.result.now in
    let b = c.deref-in-Binary-2.result.now in
    let f : FormTree = binary c.in-Binary.op a b in
    let here : e ≡ expr (type_of e) f =
    whole e (type_of e) f refl (sym (ap form_in c.e.view_is) ∙ ap form_of c.in-Binary.is ∙ ap₂ (binary c.in-Binary.op) (sym c.deref-in-Binary.ensures) (sym c.deref-in-Binary-2.ensures)) in
    subst (λ (z : ExprTree). IsWord k z s c.binary_word.result) (sym here) (c.binary_word.ensures (type_of e) calls k s sees)

pub operand_word-returns-in-Some : goal.operand_word-returns-in-Some
operand_word-returns-in-Some m c = λ calls k s sees.
    let t = c.args.t.now in
    let a = c.args.a.now in
    subst (λ o. IsWord k (expr t (unary o a)) s (Some c.one_if.result)) (sym c.in-LogicalNot.is)
    (not-word k s t a c.in-Some.d (c.in-Some.ensures calls k s sees) ∙ ap (given_word s) (sym c.one_if.ensures))

pub operator_word-returns-in-Some-true : goal.operator_word-returns-in-Some-true
operator_word-returns-in-Some-true m c = λ calls k s sees.
    let e = c.args.e.now in
    let arm = c.in-LogicalAnd in
    let f : FormTree = logical_and c.deref.result.now c.deref-in-Some-true.result.now in
    let here : e ≡ expr (type_of e) f =
    whole e (type_of e) f refl (sym (ap form_in c.e.view_is) ∙ ap form_of arm.is
    ∙ ap (λ z. logical_and z arm.b.value) (sym c.deref.ensures)
    ∙ ap (λ z. logical_and c.deref.result.now z) (sym c.deref-in-Some-true.ensures)) in
    subst (λ (z : ExprTree). IsWord k z s c.truth_word.result) (sym here) (and-word k s (type_of e) c.deref.result.now c.deref-in-Some-true.result.now c.in-Some-true.field-0 c.truth_word.result c.in-Some-true.field-0-test (c.in-Some-true.ensures calls k s sees) (c.truth_word.ensures calls k s sees))

pub operator_word-returns-in-Some-false : goal.operator_word-returns-in-Some-false
operator_word-returns-in-Some-false m c = λ calls k s sees.
    let e = c.args.e.now in
    let arm = c.in-LogicalAnd in
    let f : FormTree = logical_and c.deref.result.now c.in-LogicalAnd.b.value in
    let here : e ≡ expr (type_of e) f =
    whole e (type_of e) f refl (sym (ap form_in c.e.view_is) ∙ ap form_of arm.is
    ∙ ap (λ z. logical_and z arm.b.value) (sym c.deref.ensures)) in
    subst (λ (z : ExprTree). IsWord k z s (Some 0)) (sym here) (and-none k s (type_of e) c.deref.result.now c.in-LogicalAnd.b.value c.in-Some-false.field-0 c.in-Some-false.field-0-test (c.in-Some-false.ensures calls k s sees))

pub operator_word-returns-in-Some-true-asked : goal.operator_word-returns-in-Some-true-asked
operator_word-returns-in-Some-true-asked m c = λ calls k s sees.
    let e = c.args.e.now in
    let arm = c.in-LogicalOr in
    let f : FormTree = logical_or c.deref-in-LogicalOr.result.now c.in-LogicalOr.b.value in
    let here : e ≡ expr (type_of e) f =
    whole e (type_of e) f refl (sym (ap form_in c.e.view_is) ∙ ap form_of arm.is
    ∙ ap (λ z. logical_or z arm.b.value) (sym c.deref-in-LogicalOr.ensures)) in
    subst (λ (z : ExprTree). IsWord k z s (Some 1)) (sym here) (or-one k s (type_of e) c.deref-in-LogicalOr.result.now c.in-LogicalOr.b.value c.in-Some-true-asked.field-0 c.in-Some-true-asked.field-0-test (c.in-Some-true-asked.ensures calls k s sees))

pub operator_word-returns-in-Some-false-asked : goal.operator_word-returns-in-Some-false-asked
operator_word-returns-in-Some-false-asked m c = λ calls k s sees.
    let e = c.args.e.now in
    let arm = c.in-LogicalOr in
    let f : FormTree = logical_or c.deref-in-LogicalOr.result.now c.deref-in-Some-false-asked.result.now in
    let here : e ≡ expr (type_of e) f =
    whole e (type_of e) f refl (sym (ap form_in c.e.view_is) ∙ ap form_of arm.is
    ∙ ap (λ z. logical_or z arm.b.value) (sym c.deref-in-LogicalOr.ensures)
    ∙ ap (λ z. logical_or c.deref-in-LogicalOr.result.now z) (sym c.deref-in-Some-false-asked.ensures)) in
    subst (λ (z : ExprTree). IsWord k z s c.truth_word-in-Some-false-asked.result) (sym here) (or-word k s (type_of e) c.deref-in-LogicalOr.result.now c.deref-in-Some-false-asked.result.now c.in-Some-false-asked.field-0 c.truth_word-in-Some-false-asked.result c.in-Some-false-asked.field-0-test (c.in-Some-false-asked.ensures calls k s sees) (c.truth_word-in-Some-false-asked.ensures calls k s sees))

pub operator_word-returns-in-Some-true-asked-2 : goal.operator_word-returns-in-Some-true-asked-2
operator_word-returns-in-Some-true-asked-2 m c = λ calls k s sees.
    let e = c.args.e.now in
    let arm = c.in-Conditional in
    let f : FormTree = conditional c.deref-in-Conditional.result.now c.deref-in-Some-true-asked-2.result.now c.in-Conditional.b.value in
    let here : e ≡ expr (type_of e) f =
    whole e (type_of e) f refl (sym (ap form_in c.e.view_is) ∙ ap form_of arm.is
    ∙ ap (λ z. conditional z arm.a.value arm.b.value) (sym c.deref-in-Conditional.ensures)
    ∙ ap (λ z. conditional c.deref-in-Conditional.result.now z arm.b.value) (sym c.deref-in-Some-true-asked-2.ensures)) in
    subst (λ (z : ExprTree). IsWord k z s c.word.result) (sym here) (chosen-word k s (type_of e) c.deref-in-Conditional.result.now c.deref-in-Some-true-asked-2.result.now c.in-Conditional.b.value c.in-Some-true-asked-2.field-0 c.word.result c.in-Some-true-asked-2.field-0-test (c.in-Some-true-asked-2.ensures calls k s sees) (c.word.ensures calls k s sees))

pub operator_word-returns-in-Some-false-asked-2 : goal.operator_word-returns-in-Some-false-asked-2
operator_word-returns-in-Some-false-asked-2 m c = λ calls k s sees.
    let e = c.args.e.now in
    let arm = c.in-Conditional in
    let f : FormTree = conditional c.deref-in-Conditional.result.now c.in-Conditional.a.value c.deref-in-Some-false-asked-2.result.now in
    let here : e ≡ expr (type_of e) f =
    whole e (type_of e) f refl (sym (ap form_in c.e.view_is) ∙ ap form_of arm.is
    ∙ ap (λ z. conditional z arm.a.value arm.b.value) (sym c.deref-in-Conditional.ensures)
    ∙ ap (λ z. conditional c.deref-in-Conditional.result.now c.in-Conditional.a.value z) (sym c.deref-in-Some-false-asked-2.ensures)) in
    subst (λ (z : ExprTree). IsWord k z s c.word-in-Some-false-asked-2.result) (sym here) (other-word k s (type_of e) c.deref-in-Conditional.result.now c.in-Conditional.a.value c.deref-in-Some-false-asked-2.result.now c.in-Some-false-asked-2.field-0 c.word-in-Some-false-asked-2.result c.in-Some-false-asked-2.field-0-test (c.in-Some-false-asked-2.ensures calls k s sees) (c.word-in-Some-false-asked-2.ensures calls k s sees))

-- ---- values

pub operator_value-returns-in-Some-true : goal.operator_value-returns-in-Some-true
operator_value-returns-in-Some-true m c = λ calls k s sees.
    let e = c.args.e.now in
    let arm = c.in-Conditional in
    let f : FormTree = conditional c.deref-in-Conditional.result.now c.deref-in-Some-true.result.now c.in-Conditional.b.value in
    let here : e ≡ expr (type_of e) f =
    whole e (type_of e) f refl (sym (ap form_in c.e.view_is) ∙ ap form_of arm.is
    ∙ ap (λ z. conditional z arm.a.value arm.b.value) (sym c.deref-in-Conditional.ensures)
    ∙ ap (λ z. conditional c.deref-in-Conditional.result.now z arm.b.value) (sym c.deref-in-Some-true.ensures)) in
    subst (λ (z : ExprTree). IsValue k z s c.answer-in-Some-true.result) (sym here) (chosen-value k s (type_of e) c.deref-in-Conditional.result.now c.deref-in-Some-true.result.now c.in-Conditional.b.value c.in-Some-true.field-0 c.answer-in-Some-true.result c.in-Some-true.field-0-test (c.in-Some-true.ensures calls k s sees) (c.answer-in-Some-true.ensures calls k s sees))

pub operator_value-returns-in-Some-false : goal.operator_value-returns-in-Some-false
operator_value-returns-in-Some-false m c = λ calls k s sees.
    let e = c.args.e.now in
    let arm = c.in-Conditional in
    let f : FormTree = conditional c.deref-in-Conditional.result.now c.in-Conditional.a.value c.deref-in-Some-false.result.now in
    let here : e ≡ expr (type_of e) f =
    whole e (type_of e) f refl (sym (ap form_in c.e.view_is) ∙ ap form_of arm.is
    ∙ ap (λ z. conditional z arm.a.value arm.b.value) (sym c.deref-in-Conditional.ensures)
    ∙ ap (λ z. conditional c.deref-in-Conditional.result.now c.in-Conditional.a.value z) (sym c.deref-in-Some-false.ensures)) in
    subst (λ (z : ExprTree). IsValue k z s c.answer-in-Some-false.result) (sym here) (other-value k s (type_of e) c.deref-in-Conditional.result.now c.in-Conditional.a.value c.deref-in-Some-false.result.now c.in-Some-false.field-0 c.answer-in-Some-false.result c.in-Some-false.field-0-test (c.in-Some-false.ensures calls k s sees) (c.answer-in-Some-false.ensures calls k s sees))

pub value-returns-in-None : goal.value-returns-in-None
value-returns-in-None m c = λ calls k s sees.
    let e = c.args.e.now in
    let t = c.deref.result.now in
    let f : FormTree = read c.in-Read.p in
    let here : e ≡ expr t f = whole e t f (c.deref.ensures ∙ ap type_of c.e.view_is) (sym (ap form_in c.e.view_is) ∙ ap form_of c.in-Read.is) in
    subst (λ (z : ExprTree). IsValue k z s c.object_value.result) (sym here) (c.object_value.ensures calls k s sees)

pub value-returns-in-Binary : goal.value-returns-in-Binary
value-returns-in-Binary m c = λ calls k s sees.
    let e = c.args.e.now in
    let a = c.deref-in-Binary.result.now in
    let b = c.deref-in-Binary-2.result.now in
    let f : FormTree = binary c.in-Binary.op a b in
    let here : e ≡ expr (type_of e) f =
    whole e (type_of e) f refl (sym (ap form_in c.e.view_is) ∙ ap form_of c.in-Binary.is ∙ ap₂ (binary c.in-Binary.op) (sym c.deref-in-Binary.ensures) (sym c.deref-in-Binary-2.ensures)) in
    subst (λ (z : ExprTree). IsValue k z s c.binary_value.result) (sym here) (c.binary_value.ensures (type_of e) calls k s sees)

pub binary_value-returns-in-PointerPlus : goal.binary_value-returns-in-PointerPlus
binary_value-returns-in-PointerPlus m c = λ t calls k s sees.
    subst (λ o. IsValue k (expr t (binary o c.args.a.now c.args.b.now)) s c.element.result) (sym c.in-PointerPlus.is) (c.element.ensures t calls k s sees)

pub value-returns-in-Address : goal.value-returns-in-Address
value-returns-in-Address m c = λ calls k s sees.
    let e = c.args.e.now in
    let f : FormTree = address c.in-Address.p in
    let here : e ≡ expr (type_of e) f = whole e (type_of e) f refl (sym (ap form_in c.e.view_is) ∙ ap form_of c.in-Address.is) in
    subst (λ (z : ExprTree). IsValue k z s c.address.result) (sym here) (address-value k s (type_of e) c.in-Address.p c.address.result (c.address.ensures calls k s sees))
