-- The code has of a lambda what is listed of it.
use Rattle.std.proofs.Common.{◌≡◌, ◌++◌, ◌+◌, ◌*◌, ◌<◌, ◌≤◌, ◌^◌, sym, ap, subst, ◌∙◌, length, IsTrue, IfOk, OnOk}
use Rattle.g_graph.specs.Plain.{PlainLambda}
use Rattle.g_graph.specs.WellFormed.{all_of}
use Rattle.s_linear.specs.Lines.{names_below}
use Rattle.rv_layout.specs.Items.{items_size}
use Rattle.a_place.specs.Places.{places}
use Rattle.s_linear.specs.declared.frame.CodeForm.TheVariants.{Plain}
use Rattle.cc_emit.proofs.lemmas.Lambdas.{names_fit, frame_fits_here, can_select_here, items_are}
use Rattle.cc_listing.proofs.FunctionLemmas.{text_is}
use Rattle.cc_listing.proofs.functions.push_function.Goals as goal

pub place-requires : goal.place-requires
place-requires c = subst (λ ls. IsTrue (all_of (names_below 4294967295) ls)) (sym c.in_ok-linear.ensures) (names_fit c.args.lambda.now c.requires.function)

pub frame-frame-requires : goal.frame-frame-requires
frame-frame-requires c =
    frame_fits_here Plain c.args.lambda.now c.in_ok-linear.linear c.in_ok-places.places c.deref.result.now c.in_ok-linear.ensures (c.in_ok-places.ensures ∙ ap places c.in_ok-linear.ensures)
    (c.deref.ensures.value ∙ ap (λ (l : PlainLambda). l.objects) c.lambda.view_is) c.requires.function

pub push_placed-requires-clause-select : goal.push_placed-requires-clause-select
push_placed-requires-clause-select c =
    can_select_here Plain c.args.lambda.now c.in_ok-linear.linear c.in_ok-places.places c.deref-2.result.now c.in_ok-linear.ensures (c.in_ok-places.ensures ∙ ap places c.in_ok-linear.ensures)
    (c.deref-2.ensures.value ∙ ap (λ (l : PlainLambda). l.objects) c.lambda.view_is) c.frame-frame.result c.deref.result.now c.requires.function
    (c.deref.ensures.value ∙ ap (λ (l : PlainLambda). l.objects) c.lambda.view_is) c.frame-frame.ensures

pub push_placed-requires-clause-fits : goal.push_placed-requires-clause-fits
push_placed-requires-clause-fits c =
    frame_fits_here Plain c.args.lambda.now c.in_ok-linear.linear c.in_ok-places.places c.deref-2.result.now c.in_ok-linear.ensures (c.in_ok-places.ensures ∙ ap places c.in_ok-linear.ensures)
    (c.deref-2.ensures.value ∙ ap (λ (l : PlainLambda). l.objects) c.lambda.view_is) c.requires.function

pub push_placed-requires-clause-whole : goal.push_placed-requires-clause-whole
push_placed-requires-clause-whole c =
    subst (λ is. items_size is ≤ 4 * length c.args.words.now)
    (sym (items_are Plain c.args.lambda.now c.in_ok-linear.linear c.in_ok-places.places c.deref-2.result.now c.in_ok-linear.ensures (c.in_ok-places.ensures ∙ ap places c.in_ok-linear.ensures)
    (c.deref-2.ensures.value ∙ ap (λ (l : PlainLambda). l.objects) c.lambda.view_is)))
    c.requires.whole

pub push_placed-requires-clause-end : goal.push_placed-requires-clause-end
push_placed-requires-clause-end c =
    subst (λ is. c.args.at + items_size is < 2 ^ 32)
    (sym (items_are Plain c.args.lambda.now c.in_ok-linear.linear c.in_ok-places.places c.deref-2.result.now c.in_ok-linear.ensures (c.in_ok-places.ensures ∙ ap places c.in_ok-linear.ensures)
    (c.deref-2.ensures.value ∙ ap (λ (l : PlainLambda). l.objects) c.lambda.view_is)))
    c.requires.end

pub returns-clause-end : goal.returns-clause-end
returns-clause-end c =
    subst (λ is. IfOk c.push_placed.result (λ end. end ≡ c.args.at + items_size is))
    (items_are Plain c.args.lambda.now c.in_ok-linear.linear c.in_ok-places.places c.deref-2.result.now c.in_ok-linear.ensures (c.in_ok-places.ensures ∙ ap places c.in_ok-linear.ensures)
    (c.deref-2.ensures.value ∙ ap (λ (l : PlainLambda). l.objects) c.lambda.view_is))
    c.push_placed.ensures.end

pub returns-clause-text : goal.returns-clause-text
returns-clause-text c =
    subst (λ all. OnOk c.push_placed.result (c.push_placed.new.out.items ≡ c.args.out.now.items ++ all))
    (text_is c.args.lambda.now c.in_ok-linear.linear c.in_ok-places.places c.deref-2.result.now c.in_ok-linear.ensures c.in_ok-places.ensures
    (c.deref-2.ensures.value ∙ ap (λ (l : PlainLambda). l.objects) c.lambda.view_is) c.args.names.now c.args.name.now c.args.at c.args.words.now)
    c.push_placed.ensures.text
