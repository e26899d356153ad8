use Rattle.std.proofs.Common.{◌≡◌, ℕ, Bool, List, Some, map, count_by, slice_get, sym, ap, subst, ◌∙◌}
use Rattle.std.specs.Arc.{arc_value}
use Rattle.elf_file.specs.Written.{file_of}
use Rattle.call_order.specs.Units.{call_lists}
use Rattle.g_graph.specs.Plain.{PlainLambda, PlainOmega}
use Rattle.g_build_def.specs.Functions as built
use Rattle.g_pass_def.specs.Answers.{AreAnswers}
use Rattle.g_pass.specs.Sweep.{rules}
use Rattle.rv_layout.specs.Layout.{item_lists}
use Rattle.cc_emit.specs.Image.{lambdas_of}
use Rattle.cc_emit.specs.Laws.{IsFunction}
use Rattle.cc_emit.proofs.lemmas.Lambdas.{is_function}
use Rattle.cc_emit.specs.Items.{image_of_items, CanEmitItems}
use Rattle.cc_session.specs.Items.{items_of, AreItemsKept}
use Rattle.cc_session.specs.Rebuilds.{AreRemade}
use Rattle.cc_session.proofs.FromParts.{small, rebuilt}
use Rattle.cc_session.proofs.Unstale.{items-kept}
use Rattle.cc_session.proofs.rebuild.rebuild_from.Goals as goal

pub remake-requires-clause-small : goal.remake-requires-clause-small
remake-requires-clause-small g c κs within f l e =
    let p = c.args.now.now.program in
    let typed = c.typed-typed.ensures in
    let lambdas = c.deref.ensures.value ∙ ap (λ (o : PlainOmega). o.lambdas) (c.graph.view_is ∙ (c.in_ok-graph.ensures ∙ ap built.omega typed.same)) in
    let can = c.programs_can_be_emitted.ensures.graphs p typed.typed typed.limits typed.accepted.within in
    small p can f l (ap (λ (ls : List PlainLambda). slice_get ls f) (sym lambdas) ∙ e)

pub items_since-requires-clause-functions : goal.items_since-requires-clause-functions
items_since-requires-clause-functions g c =
    let p = c.args.now.now.program in
    let recipe = c.args.recipe.now in
    let typed = c.typed-typed.ensures in
    let lambdas = c.deref.ensures.value ∙ ap (λ (o : PlainOmega). o.lambdas) (c.graph.view_is ∙ (c.in_ok-graph.ensures ∙ ap built.omega typed.same)) in
    let answers = map arc_value c.in_ok-made.made.answers.items in
    let all = subst (λ (ls : List PlainLambda). AreAnswers rules recipe ls answers) lambdas c.in_ok-made.ensures.answered in
    let can = c.answers_can_be_emitted.ensures p typed.typed typed.limits typed.accepted.within recipe answers all in
    subst (λ xs. (f : ℕ) (l : PlainLambda) → slice_get (lambdas_of (map arc_value xs)) f ≡ Some l → IsFunction l) (sym c.deref-2.ensures.value)
    (is_function (built.omega p) (lambdas_of answers) can)

pub items_since-requires-clause-kept : goal.items_since-requires-clause-kept
items_since-requires-clause-kept g c =
    let ls = c.deref.result.now in
    let deps = call_lists c.in_ok-made.made.order.deps.items in
    let stale = c.in_ok-made.made.stale.items in
    let answers = map arc_value c.in_ok-made.made.answers.items in
    let items = item_lists c.items_of.result.now in
    let kept =
    items-kept c.orders_are_unique.ensures.unique c.unstale_answers_are_kept.ensures c.args.recipe.now c.args.last.now c.requires.session.is_last ls deps stale answers
    c.in_ok-made.ensures c.args.form c.requires.session.is_form items c.items_of.ensures in
    subst (λ xs. AreItemsKept c.args.form (map arc_value xs) c.deref-3.result.now items) (sym c.deref-2.ensures.value)
    (subst (λ (st : List Bool). AreItemsKept c.args.form answers st items) (sym c.deref-3.ensures.value) kept)

pub file_of_items-requires : goal.file_of_items-requires
file_of_items-requires g c =
    let p = c.args.now.now.program in
    let recipe = c.args.recipe.now in
    let typed = c.typed-typed.ensures in
    let graph = c.in_ok-graph.ensures ∙ ap built.omega typed.same in
    let lambdas = c.deref.ensures.value ∙ ap (λ (o : PlainOmega). o.lambdas) (c.graph.view_is ∙ graph) in
    let answers = map arc_value c.in_ok-made.made.answers.items in
    let all = subst (λ (ls : List PlainLambda). AreAnswers rules recipe ls answers) lambdas c.in_ok-made.ensures.answered in
    subst (λ (o : PlainOmega). CanEmitItems o (item_lists c.deref-4.result.now)) (sym graph)
    (record {
      form = c.args.form;
      lambdas = lambdas_of answers;
      can = c.answers_can_be_emitted.ensures p typed.typed typed.limits typed.accepted.within recipe answers all;
      items_are = ap item_lists c.deref-4.ensures.value ∙ (c.in_ok-items.ensures ∙ ap (λ xs. items_of c.args.form (map arc_value xs)) c.deref-2.ensures.value);
    })

pub returns : goal.returns
returns g c =
    let now = c.args.now.now in
    let p = now.program in
    let recipe = c.args.recipe.now in
    let last = c.args.last.now in
    let graph = c.in_ok-graph.ensures ∙ ap built.omega c.typed-typed.ensures.same in
    let lambdas = c.deref.ensures.value ∙ ap (λ (o : PlainOmega). o.lambdas) (c.graph.view_is ∙ graph) in
    let deps = call_lists c.in_ok-made.made.order.deps.items in
    let stale = c.in_ok-made.made.stale.items in
    let answers = map arc_value c.in_ok-made.made.answers.items in
    let made = subst (λ (ls : List PlainLambda). AreRemade recipe last ls deps stale answers) lambdas c.in_ok-made.ensures in
    let items = ap item_lists c.deref-4.ensures.value ∙ (c.in_ok-items.ensures ∙ ap (λ xs. items_of c.args.form (map arc_value xs)) c.deref-2.ensures.value) in
    let file =
    c.in_ok-image.ensures
    ∙ (ap (λ (o : PlainOmega). file_of (image_of_items o (item_lists c.deref-4.result.now))) graph ∙ ap (λ fs. file_of (image_of_items (built.omega p) fs)) items) in
    let jobs = c.count_of-jobs.ensures ∙ ap (count_by (λ b. b)) c.deref-6.ensures.value in
    rebuilt c.orders_are_unique.ensures.unique now recipe c.args.form last c.requires.session deps stale answers made c.in_ok-image.image.items c.count_of-jobs.result c.in_ok-source.source.items
    c.into_lambdas-lambdas.result.items c.in_ok-own.own.items file jobs (c.in_ok-source.ensures.items ∙ c.source.ensures.same)
    (c.into_lambdas-lambdas.ensures ∙ ap (λ (o : PlainOmega). o.lambdas) graph)
    (c.in_ok-own.ensures.items ∙ c.deref-5.ensures.value)
