use Rattle.std.proofs.Common.{map, option_map, Some, sym, ap, subst, ◌∙◌}
use Rattle.std.proofs.lemmas.Option.{slice_get-map}
use Rattle.std.specs.Arc.{arc_value}
use Rattle.r_rule.specs.Optimised.{PlainOptimised}
use Rattle.cc_emit.specs.Image.{function_items, lambdas_of}
use Rattle.cc_emit.specs.Laws.{IsFunction}
use Rattle.cc_emit.proofs.lemmas.Answered.{answer_at, items_more}
use Rattle.cc_session.proofs.items.items_since.Goals as goal

pub items_at-requires-clause-function : goal.items_at-requires-clause-function
items_at-requires-clause-function c =
    let i = c.loop-function.function in
    let a = c.index-answers-function.result in
    let is = c.behind-answers.view_is ∙ c.deref.ensures in
    subst (λ (o : PlainOptimised). IsFunction o.lambda) (sym is)
    (c.requires.functions i (arc_value a).lambda (answer_at c.args.form arc_value c.args.answers.now i a c.loop-function-test.true c.index-answers-function.is))

pub items_at-requires-clause-kept : goal.items_at-requires-clause-kept
items_at-requires-clause-kept c fresh =
    let i = c.loop-function.function in
    let a = c.index-answers-function.result in
    let is = c.behind-answers.view_is ∙ c.deref.ensures in
    let there = answer_at c.args.form arc_value c.args.answers.now i a c.loop-function-test.true c.index-answers-function.is in
    c.requires.kept i fresh ∙ (slice_get-map (function_items c.args.form) (lambdas_of (map arc_value c.args.answers.now)) i
    ∙ ap (option_map (function_items c.args.form)) (there ∙ ap (λ (o : PlainOptimised). Some o.lambda) (sym is)))

pub loop-function-preserved : goal.loop-function-preserved
loop-function-preserved c =
    let i = c.loop-function.function in
    let a = c.index-answers-function.result in
    let is = c.behind-answers.view_is ∙ c.deref.ensures in
    items_more c.args.form arc_value c.args.answers.now i a c.loop-function-test.true c.index-answers-function.is c.loop-function.all.items c.push.new.self.items
    c.in_ok-items_at.field-0 c.loop-function.invariant (c.in_ok-items_at.ensures ∙ ap (λ (o : PlainOptimised). function_items c.args.form o.lambda) is)
    c.in_ok-push.ensures.items
