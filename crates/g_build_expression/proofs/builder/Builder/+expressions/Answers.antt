use Rattle.std.proofs.Common.{◌≡◌, ℕ, ◌∷◌, [], refl, sym, ap, ◌∙◌, arith}
use Rattle.std.specs.Prelude.{Option, None, Some, option_to_list, is_some}
use Rattle.val_core.specs.declared.operation.Op2.TheVariants as op
use Rattle.c_type.specs.Trees.{TypeTree, void_type, scalar_type, pointer_to, array_of, struct_type}
use Rattle.c_typed.specs.Typed.{ExprTree, expr, logical_and, logical_or, compound}
use Rattle.c_typed.specs.WellTyped.{int}
use Rattle.c_typed.specs.ExprViews.{form_of}
use Rattle.c_typed.specs.declared.expression.ExprForm.TheVariants as form
use Rattle.g_graph.specs.declared.op.Origin.{Origin}
use Rattle.g_graph.specs.declared.op.Origin.TheVariants.{Out}
use Rattle.g_build_def.specs.Writer.{Point, Built, bind, one_value, choice}
use Rattle.g_build_def.specs.Operations.{const_made, bin_made, is_not_zero_made}
use Rattle.g_build_def.specs.Expressions.{conditional_extra, tested, expr_made, form_made}
use Rattle.g_build_def.proofs.lemmas.Later.{Keeps, bind_later}
use Rattle.g_build_def.proofs.lemmas.LaterExpressions.{const_later, bin_later, expr_later, tested_later}
use Rattle.g_build_expression.specs.declared.choices.RegionOrder.TheVariants.{ZeroFirst}
use Rattle.g_build_expression.specs.Work.{Work, made, port_of}
use Rattle.g_build_expression.specs.Choices.{chosen}
use Rattle.g_build_expression.proofs.Sizes.{item_size}
use Rattle.g_build_expression.proofs.lemmas.Made.{Makes, bind_makes, on_ok, if_ok}
use Rattle.g_build_expression.proofs.lemmas.Choices.{choice_makes}
use Rattle.g_build_expression.proofs.builder.Builder.+expressions.Goals as goal

pub arguments-expression-requires : goal.arguments-expression-requires
arguments-expression-requires t c =
    (omega (arith, item_size c.args.es.now c.loop-argument.argument-index c.argument-item.result c.loop-argument-test.true c.argument-item.is, c.decreases), tt)

pub comma-expression-requires : goal.comma-expression-requires
comma-expression-requires t c =
    (omega (arith, item_size c.args.es.now c.loop-dropped.dropped-index c.dropped-item.result c.loop-dropped-test.true c.dropped-item.is, c.decreases), tt)

pub expression-returns-in-Compound-clause-value : goal.expression-returns-in-Compound-clause-value
expression-returns-in-Compound-clause-value t c =
    let s : Point = c.args.self.now.point in
    let whole : expr c.e.inside.ty.value (form_of c.e.inside.form) ≡ c.args.e.now = c.e.view_is in
    let form : c.e.inside.form ≡ form.Compound c.in-Compound.op c.in-Compound.p c.in-Compound.a = c.in-Compound.is in
    let type : c.deref-in-Compound.result.now ≡ c.e.inside.ty.value = c.deref-in-Compound.ensures in
    let operand : c.deref-in-Compound-2.result.now ≡ c.in-Compound.a.value = c.deref-in-Compound-2.ensures in
    let same : (form_made c.deref-in-Compound.result.now (compound c.in-Compound.op c.in-Compound.p c.deref-in-Compound-2.result.now) s).value ≡ (expr_made c.args.e.now s).value =
    ap (λ u. (form_made u (compound c.in-Compound.op c.in-Compound.p c.deref-in-Compound-2.result.now) s).value) type
    ∙ ap (λ a. (form_made c.e.inside.ty.value (compound c.in-Compound.op c.in-Compound.p a) s).value) operand
    ∙ ap (λ f. (form_made c.e.inside.ty.value (form_of f) s).value) (sym form) ∙ ap (λ e. (expr_made e s).value) whole in
    if_ok c.compound_assignment.result
    (λ v. v ≡ (form_made c.deref-in-Compound.result.now (compound c.in-Compound.op c.in-Compound.p c.deref-in-Compound-2.result.now) s).value)
    (λ v. v ≡ (expr_made c.args.e.now s).value) c.compound_assignment.ensures.value (λ v h. h ∙ same)

-- the second operand of `&&` and `||`
second_makes : (w w1 w2 : Work) (b : ExprTree) (p v : Origin) → w1 ≡ made w (tested b w.point) → p ≡ (tested b w.point).value → w2 ≡ made w1 (is_not_zero_made p w1.point) →
    v ≡ (is_not_zero_made p w1.point).value → Makes w (bind (tested b w.point) is_not_zero_made) w2 v
second_makes w w1 w2 b p v h e k f =
    bind_makes w w1 w2 (tested b w.point) is_not_zero_made p v (record { work = h; value = e }) (record { work = k; value = f })

second_later : (b : ExprTree) → Keeps (λ s. bind (tested b s) is_not_zero_made)
second_later b s = bind_later s (tested b s) is_not_zero_made (tested_later b s) (λ v t. bind_later t (const_made 0 t) (λ z u. bin_made op.Ne v z u) (const_later 0 t) (λ z. bin_later op.Ne v z))

pub logical_and-returns-clause-work : goal.logical_and-returns-clause-work
logical_and-returns-clause-work t c =
    let w = c.args.self.now in
    let w1 = c.tested.new.self in
    let n : Origin = Out w1.point.next 0 in
    let g : Point → Built Origin = λ s. bind (tested c.args.b.now s) is_not_zero_made in
    let r : Option Origin = Some c.in_ok-value.value in
    let second =
    second_makes c.otherwise.new.self c.tested-2.new.self c.is_not_zero.new.self c.args.b.now c.in_ok-second.second c.in_ok-value.value c.in_ok-second.ensures.work c.in_ok-second.ensures.value
    c.in_ok-value.ensures.work c.in_ok-value.ensures.value in
    on_ok c.chosen.result (c.chosen.new.self ≡ chosen ZeroFirst r c.is_not_zero.new.self)
    (c.chosen.new.self ≡ made w (form_made int (logical_and c.args.a.now c.args.b.now) w.point)) c.chosen.ensures.work
    (λ e.
    (bind_makes w w1 c.chosen.new.self (tested c.args.a.now w.point) (λ p u. choice one_value u p (const_made 0) g) c.in_ok-predicate.predicate n
    (record { work = c.in_ok-predicate.ensures.work; value = c.in_ok-predicate.ensures.value })
    (choice_makes ZeroFirst one_value r (λ j. refl) w1 c.choice.new.self c.constant.new.self c.otherwise.new.self c.is_not_zero.new.self c.chosen.new.self c.in_ok-predicate.predicate
    (const_made 0) g (c.in_ok-zero.zero ∷ []) n (const_later 0) (second_later c.args.b.now) c.in_ok-choice.ensures c.in_ok-zero.ensures.work
    (ap (λ o. o ∷ []) c.in_ok-zero.ensures.value) c.in_ok-otherwise.ensures second.work (ap (λ o. o ∷ []) second.value) e refl)).work)

pub logical_or-returns-clause-work : goal.logical_or-returns-clause-work
logical_or-returns-clause-work t c =
    let w = c.args.self.now in
    let w1 = c.tested.new.self in
    let n : Origin = Out w1.point.next 0 in
    let f : Point → Built Origin = λ s. bind (tested c.args.b.now s) is_not_zero_made in
    let r : Option Origin = Some c.in_ok-one.one in
    let second =
    second_makes c.choice.new.self c.tested-2.new.self c.is_not_zero.new.self c.args.b.now c.in_ok-second.second c.in_ok-value.value c.in_ok-second.ensures.work c.in_ok-second.ensures.value
    c.in_ok-value.ensures.work c.in_ok-value.ensures.value in
    on_ok c.chosen.result (c.chosen.new.self ≡ chosen ZeroFirst r c.constant.new.self)
    (c.chosen.new.self ≡ made w (form_made int (logical_or c.args.a.now c.args.b.now) w.point)) c.chosen.ensures.work
    (λ e.
    (bind_makes w w1 c.chosen.new.self (tested c.args.a.now w.point) (λ p u. choice one_value u p f (const_made 1)) c.in_ok-predicate.predicate n
    (record { work = c.in_ok-predicate.ensures.work; value = c.in_ok-predicate.ensures.value })
    (choice_makes ZeroFirst one_value r (λ j. refl) w1 c.choice.new.self c.is_not_zero.new.self c.otherwise.new.self c.constant.new.self c.chosen.new.self c.in_ok-predicate.predicate
    f (const_made 1) (c.in_ok-value.value ∷ []) n (second_later c.args.b.now) (const_later 1) c.in_ok-choice.ensures second.work (ap (λ o. o ∷ []) second.value)
    c.in_ok-otherwise.ensures c.in_ok-one.ensures.work (ap (λ o. o ∷ []) c.in_ok-one.ensures.value) e refl)).work)

-- the region of a `?:` has its value as a result, unless it is void
conditional_port : (t : TypeTree) (p v : Origin) (r : Option Origin) → option_to_list r ≡ (conditional_extra t p).results v → (j : ℕ) → port_of (is_some r) j ≡ (conditional_extra t p).port j
conditional_port void_type p v None h j = refl
conditional_port void_type p v (Some o) h j = cc
conditional_port (scalar_type s) p v None h j = cc
conditional_port (scalar_type s) p v (Some o) h j = refl
conditional_port (pointer_to u) p v None h j = cc
conditional_port (pointer_to u) p v (Some o) h j = refl
conditional_port (array_of u n) p v None h j = cc
conditional_port (array_of u n) p v (Some o) h j = refl
conditional_port (struct_type n) p v None h j = cc
conditional_port (struct_type n) p v (Some o) h j = refl

conditional_results : (t : TypeTree) (p q v : Origin) → (conditional_extra t p).results v ≡ (conditional_extra t q).results v
conditional_results void_type p q v = refl
conditional_results (scalar_type s) p q v = refl
conditional_results (pointer_to u) p q v = refl
conditional_results (array_of u n) p q v = refl
conditional_results (struct_type n) p q v = refl

pub conditional-returns-clause-work : goal.conditional-returns-clause-work
conditional-returns-clause-work t c =
    let w = c.args.self.now in
    let w1 = c.tested.new.self in
    let p = c.in_ok-predicate.predicate in
    let y = c.args.t.now in
    let x = conditional_extra y p in
    let r = c.extra_of-2.result in
    let rs = c.extra_of.ensures ∙ conditional_results y c.in_ok-first.first p c.in_ok-first.first ∙ ap x.results c.in_ok-first.ensures.value in
    let qs = c.extra_of-2.ensures ∙ conditional_results y c.in_ok-second.second p c.in_ok-second.second in
    (bind_makes w w1 c.chosen.new.self (tested c.args.c.now w.point) (λ q u. choice (conditional_extra y q) u q (expr_made c.args.b.now) (expr_made c.args.a.now)) p (x.value w1.point.next)
    (record { work = c.in_ok-predicate.ensures.work; value = c.in_ok-predicate.ensures.value })
    (choice_makes ZeroFirst x r (conditional_port y p c.in_ok-second.second r qs) w1 c.choice.new.self c.expression.new.self c.otherwise.new.self c.expression-2.new.self c.chosen.new.self p
    (expr_made c.args.b.now) (expr_made c.args.a.now) (option_to_list c.extra_of.result) (x.value w1.point.next) (expr_later c.args.b.now) (expr_later c.args.a.now) c.in_ok-choice.ensures
    c.in_ok-first.ensures.work rs c.in_ok-otherwise.ensures c.in_ok-second.ensures.work (qs ∙ ap x.results c.in_ok-second.ensures.value) c.in_ok-output.ensures.work refl)).work
