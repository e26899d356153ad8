use Rattle.std.proofs.Common.{◌≡◌, ◌∙◌, IfOk, OnOk, refl, ap, sym, subst}
use Rattle.c_lex.specs.declared.token.TokenKind.TheVariants as kind
use Rattle.c_ast.specs.Expressions.{expr_tree}
use Rattle.c_check_def.specs.Operands.{constant_by}
use Rattle.c_check_def.specs.Expressions.{expression}
use Rattle.c_check_expression.proofs.LoopLemmas.{keeps_both, arguments_none, arguments_begun, arguments_more, arguments_after, commas_more, commas_after, dimensions_more, dimensions_after}
use Rattle.c_check_expression.proofs.ArmLemmas.{arm_number, arm_char, called_as}
use Rattle.c_check_expression.proofs.+expression.Goals as goal

pub arguments::more_arguments-loop-part-init : goal.arguments::more_arguments-loop-part-init
arguments::more_arguments-loop-part-init t c = (arguments_none c.args.before.items c.args.state.now, arguments_begun c.args.state.now, (refl, refl))

pub arguments::more_arguments-loop-part-preserved : goal.arguments::more_arguments-loop-part-preserved
arguments::more_arguments-loop-part-preserved t c =
    let xs = c.args.more.now in
    let v = c.loop-part in
    let x = c.part-item.result in
    let s = c.args.state.now in
    let e = c.in_ok-a.ensures in
    let had = v.invariant in (
      arguments_more xs v.part-index x c.args.before.items v.all.items c.push.new.self.items c.in_ok-a.a s v.state c.loop-part-test.true c.part-item.is had.0 had.1 e.value c.in_ok-push.ensures.items,
      arguments_after xs v.part-index x s v.state c.expression.new.state c.loop-part-test.true c.part-item.is had.1 e.state,
      keeps_both s v.state c.expression.new.state had.2 e.keeps,
    )

pub commas::more_expressions-loop-part-preserved : goal.commas::more_expressions-loop-part-preserved
commas::more_expressions-loop-part-preserved t c =
    let xs = c.args.more.now in
    let v = c.loop-part in
    let x = c.part-item.result in
    let s = c.args.state.now in
    let e = c.in_ok-b.ensures in
    let made = c.in_ok-all.ensures in
    let had = v.invariant in (
      commas_more xs v.part-index x c.args.first v.all c.in_ok-all.all c.in_ok-b.b s v.state c.expression.new.state c.loop-part-test.true c.part-item.is had.0 had.1 e.value e.state made.value,
      commas_after xs v.part-index x c.args.first v.all c.in_ok-b.b s v.state c.expression.new.state c.comma.new.state c.loop-part-test.true c.part-item.is had.0 had.1 e.value e.state made.state,
      keeps_both s c.expression.new.state c.comma.new.state (keeps_both s v.state c.expression.new.state had.2 e.keeps) made.keeps,
    )

pub type_names::dimensions-loop-d-preserved : goal.type_names::dimensions-loop-d-preserved
type_names::dimensions-loop-d-preserved t c =
    let xs = c.args.ds.now in
    let v = c.loop-d in
    let x = c.d-item.result in
    let s = c.args.state.now in
    let e = c.in_ok-size.ensures in
    let had = v.invariant in (
      dimensions_more xs v.d-index x v.sizes.items c.push.new.self.items c.in_ok-size.size s v.state c.loop-d-test.true c.d-item.is had.0 had.1 e.value c.in_ok-push.ensures.items,
      dimensions_after xs v.d-index x s v.state c.dimension.new.state c.loop-d-test.true c.d-item.is had.1 e.state,
      keeps_both s v.state c.dimension.new.state had.2 e.keeps,
    )

pub expressions::expression-returns-in-Number-clause-value : goal.expressions::expression-returns-in-Number-clause-value
expressions::expression-returns-in-Number-clause-value t c =
    let v = c.in-Number in
    let s = c.args.state.now in
    let is : (expression (expr_tree c.args.e.now) s).0 ≡ constant_by (kind.Number v.value v.unsigned)
    = ap (λ x. (expression (expr_tree x) s).0) v.is ∙ ap (λ r. r.0) (arm_number v.value v.unsigned v.span s) in
    subst (λ a. IfOk c.number.result (λ r. r ≡ a)) (sym is) c.number.ensures

pub expressions::expression-returns-in-Char-clause-value : goal.expressions::expression-returns-in-Char-clause-value
expressions::expression-returns-in-Char-clause-value t c =
    let v = c.in-Char in
    let s = c.args.state.now in
    let is : (expression (expr_tree c.args.e.now) s).0 ≡ constant_by (kind.Char v.value)
    = ap (λ x. (expression (expr_tree x) s).0) v.is ∙ ap (λ r. r.0) (arm_char v.value v.span s) in
    subst (λ a. IfOk c.character.result (λ r. r ≡ a)) (sym is) c.character.ensures

pub expressions::expression-returns-in_ok-f-in-Call-clause-value : goal.expressions::expression-returns-in_ok-f-in-Call-clause-value
expressions::expression-returns-in_ok-f-in-Call-clause-value t c =
    let v = c.in-Call in
    let f = c.in_ok-f-in-Call in
    let is = called_as c.args.e.now v.function c.get-in-Call.result.now v.open v.arguments v.close f.f c.args.state.now c.called_function.new.state v.is
    c.get-in-Call.ensures f.ensures.value f.ensures.state in
    subst (λ a. IfOk c.call.result (λ r. r ≡ a)) (ap (λ r. r.0) is) c.call.ensures.value

pub expressions::expression-returns-in_ok-f-in-Call-clause-state : goal.expressions::expression-returns-in_ok-f-in-Call-clause-state
expressions::expression-returns-in_ok-f-in-Call-clause-state t c =
    let v = c.in-Call in
    let f = c.in_ok-f-in-Call in
    let is = called_as c.args.e.now v.function c.get-in-Call.result.now v.open v.arguments v.close f.f c.args.state.now c.called_function.new.state v.is
    c.get-in-Call.ensures f.ensures.value f.ensures.state in
    subst (λ a. OnOk c.call.result (c.call.new.state ≡ a)) (ap (λ r. r.1) is) c.call.ensures.state
