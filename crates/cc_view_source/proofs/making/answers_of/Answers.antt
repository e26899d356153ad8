use Rattle.std.proofs.Common.{◌≤◌, sym, ap, subst, ◌∙◌, length, map, slice_get, List, arith}
use Rattle.std.specs.Arc.{arc_value}
use Rattle.std.proofs.lemmas.Result.{IfOk-weaker}
use Rattle.base.specs.Limits.{most_functions}
use Rattle.g_graph.specs.Lists.{IsComplete}
use Rattle.g_graph.specs.Plain.{PlainLambda, PlainOmega}
use Rattle.g_pass_def.specs.Answers.{AreAnswers}
use Rattle.g_pass.specs.Sweep.{rules}
use Rattle.cc_emit.specs.Image.{lambdas_of, CanEmit}
use Rattle.cc_view_source.specs.Made.{IsMadeOf}
use Rattle.cc_view_source.proofs.making.answers_of.Goals as goal

pub answers-requires-clause-few : goal.answers-requires-clause-few
answers-requires-clause-few c =
    let lambdas = c.deref.ensures.value ∙ ap (λ (o : PlainOmega). o.lambdas) (c.program.view_is ∙ c.requires.graph) in
    let can = c.programs_can_be_emitted.ensures.graphs c.args.typed.now c.requires.typed c.requires.limits c.requires.values in
    subst (λ (ls : List PlainLambda). length ls ≤ most_functions) (sym lambdas) can.limits.functions

pub answers-requires-clause-complete : goal.answers-requires-clause-complete
answers-requires-clause-complete c =
    let lambdas = c.deref.ensures.value ∙ ap (λ (o : PlainOmega). o.lambdas) (c.program.view_is ∙ c.requires.graph) in
    let can = c.programs_can_be_emitted.ensures.graphs c.args.typed.now c.requires.typed c.requires.limits c.requires.values in
    subst IsComplete (sym lambdas) can.program.complete

pub answers-requires-clause-small : goal.answers-requires-clause-small
answers-requires-clause-small c f l e =
    let lambdas = c.deref.ensures.value ∙ ap (λ (o : PlainOmega). o.lambdas) (c.program.view_is ∙ c.requires.graph) in
    let can = c.programs_can_be_emitted.ensures.graphs c.args.typed.now c.requires.typed c.requires.limits c.requires.values in
    omega (arith, (can.limits.each f l (ap (λ (ls : List PlainLambda). slice_get ls f) (sym lambdas) ∙ e)).values)

pub returns : goal.returns
returns c =
    let p = c.args.typed.now in
    let recipe = c.args.recipe.now in
    let lambdas = c.deref.ensures.value ∙ ap (λ (o : PlainOmega). o.lambdas) (c.program.view_is ∙ c.requires.graph) in
    IfOk-weaker c.answers.result _ (λ all. IsMadeOf recipe p c.args.program.now (map arc_value all.items))
    (λ all is.
    let are = subst (λ (ls : List PlainLambda). AreAnswers rules recipe ls (map arc_value all.items)) lambdas is in
    record {
      graph = c.requires.graph;
      are = are;
      built = subst (λ (o : PlainOmega). CanEmit o o.lambdas) (sym c.requires.graph)
          (c.programs_can_be_emitted.ensures.graphs p c.requires.typed c.requires.limits c.requires.values);
      fits = subst (λ (o : PlainOmega). CanEmit o (lambdas_of (map arc_value all.items))) (sym c.requires.graph)
          (c.answers_can_be_emitted.ensures p c.requires.typed c.requires.limits c.requires.values recipe (map arc_value all.items) are);
    }) c.answers.ensures
