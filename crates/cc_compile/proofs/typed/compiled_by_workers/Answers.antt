use Rattle.std.proofs.Common.{◌≤◌, sym, ap, subst, ◌∙◌, length, map, slice_get, List, arith}
use Rattle.std.specs.Arc.{arc_value}
use Rattle.std.proofs.lemmas.Result.{IfOk-weaker}
use Rattle.base.specs.Limits.{most_functions}
use Rattle.g_graph.specs.Lists.{IsComplete}
use Rattle.g_graph.specs.Plain.{PlainLambda, PlainOmega}
use Rattle.g_build_def.specs.Functions as built
use Rattle.g_pass_def.specs.Answers.{AreAnswers}
use Rattle.g_pass.specs.Sweep.{rules}
use Rattle.cc_emit.specs.Image.{file_of_program, lambdas_of, CanEmit}
use Rattle.cc_compile.specs.Compiled.{IsCompiledUnder}
use Rattle.cc_compile.proofs.typed.compiled_by_workers.Goals as goal

pub answers_by_workers-requires-clause-few : goal.answers_by_workers-requires-clause-few
answers_by_workers-requires-clause-few g c κs within =
    let lambdas = c.deref.ensures.value ∙ ap (λ (o : PlainOmega). o.lambdas) (c.program.view_is ∙ c.requires.graph) in
    let can = c.programs_can_be_emitted.ensures.graphs c.args.typed.now c.requires.typed c.requires.limits c.requires.values in
    subst (λ (ls : List PlainLambda). length ls ≤ most_functions) (sym lambdas) can.limits.functions

pub answers_by_workers-requires-clause-complete : goal.answers_by_workers-requires-clause-complete
answers_by_workers-requires-clause-complete g c κs within =
    let lambdas = c.deref.ensures.value ∙ ap (λ (o : PlainOmega). o.lambdas) (c.program.view_is ∙ c.requires.graph) in
    let can = c.programs_can_be_emitted.ensures.graphs c.args.typed.now c.requires.typed c.requires.limits c.requires.values in
    subst IsComplete (sym lambdas) can.program.complete

pub answers_by_workers-requires-clause-small : goal.answers_by_workers-requires-clause-small
answers_by_workers-requires-clause-small g c κs within f l e =
    let lambdas = c.deref.ensures.value ∙ ap (λ (o : PlainOmega). o.lambdas) (c.program.view_is ∙ c.requires.graph) in
    let can = c.programs_can_be_emitted.ensures.graphs c.args.typed.now c.requires.typed c.requires.limits c.requires.values in
    omega (arith, (can.limits.each f l (ap (λ (ls : List PlainLambda). slice_get ls f) (sym lambdas) ∙ e)).values)

pub compiled_with-requires-clause-few : goal.compiled_with-requires-clause-few
compiled_with-requires-clause-few g c = (c.unlimited_are_small.ensures c.args.typed.now c.requires.limits c.requires.values).functions

pub compiled_with-requires-clause-image : goal.compiled_with-requires-clause-image
compiled_with-requires-clause-image g c =
    let p = c.args.typed.now in
    let recipe = c.args.recipe.now in
    let all = map arc_value c.in_ok-all.all.items in
    let lambdas = c.deref.ensures.value ∙ ap (λ (o : PlainOmega). o.lambdas) (c.program.view_is ∙ c.requires.graph) in
    let made = subst (λ (ls : List PlainLambda). AreAnswers rules recipe ls all) lambdas c.in_ok-all.ensures in
    let can = c.answers_can_be_emitted.ensures p c.requires.typed c.requires.limits c.requires.values recipe all made in
    subst (λ (o : PlainOmega). CanEmit o (lambdas_of (map arc_value c.deref-2.result.now))) (sym c.requires.graph)
    (subst (λ xs. CanEmit (built.omega p) (lambdas_of (map arc_value xs))) (sym c.deref-2.ensures.value) can)

pub returns-clause-compiled : goal.returns-clause-compiled
returns-clause-compiled g c =
    let p = c.args.typed.now in
    let recipe = c.args.recipe.now in
    let all = map arc_value c.deref-2.result.now in
    let lambdas = c.deref.ensures.value ∙ ap (λ (o : PlainOmega). o.lambdas) (c.program.view_is ∙ c.requires.graph) in
    let made =
    subst (λ xs. AreAnswers rules recipe (built.omega p).lambdas (map arc_value xs)) (sym c.deref-2.ensures.value)
    (subst (λ (ls : List PlainLambda). AreAnswers rules recipe ls (map arc_value c.in_ok-all.all.items)) lambdas c.in_ok-all.ensures) in
    IfOk-weaker c.compiled_with.result _ (λ x. IsCompiledUnder recipe c.args.form p x.image.items x.rows.items)
    (λ x is. (record { answers = all; made = made; file = is.0 ∙ ap (λ o. file_of_program c.args.form o (lambdas_of all)) c.requires.graph }, is.1)) c.compiled_with.ensures.compiled
