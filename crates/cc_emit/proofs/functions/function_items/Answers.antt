use Rattle.std.proofs.Common.{◌≡◌, ap, subst, ◌∙◌, IfOk}
use Rattle.g_graph.specs.Plain.{PlainLambda}
use Rattle.cc_emit.proofs.lemmas.Lambdas.{frame_fits_here, can_select_here, items_are}
use Rattle.cc_emit.proofs.functions.function_items.Goals as goal

pub frame-frame-requires : goal.frame-frame-requires
frame-frame-requires c =
    frame_fits_here c.args.form c.args.lambda.now c.in_ok-linear.linear c.in_ok-places.places c.deref.result.now c.in_ok-linear.ensures c.in_ok-places.ensures
    (c.deref.ensures.value ∙ ap (λ (l : PlainLambda). l.objects) c.lambda.view_is) c.requires

pub select-requires : goal.select-requires
select-requires c =
    can_select_here c.args.form c.args.lambda.now c.in_ok-linear.linear c.in_ok-places.places c.deref-2.result.now c.in_ok-linear.ensures c.in_ok-places.ensures
    (c.deref-2.ensures.value ∙ ap (λ (l : PlainLambda). l.objects) c.lambda.view_is) c.frame-frame.result c.deref.result.now c.requires
    (c.deref.ensures.value ∙ ap (λ (l : PlainLambda). l.objects) c.lambda.view_is) c.frame-frame.ensures

pub returns : goal.returns
returns c =
    subst (λ all. IfOk c.select.result (λ items. items.items ≡ all))
    (items_are c.args.form c.args.lambda.now c.in_ok-linear.linear c.in_ok-places.places c.deref-2.result.now c.in_ok-linear.ensures c.in_ok-places.ensures
    (c.deref-2.ensures.value ∙ ap (λ (l : PlainLambda). l.objects) c.lambda.view_is))
    c.select.ensures
