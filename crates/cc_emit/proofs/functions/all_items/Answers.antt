use Rattle.std.proofs.Common.{sym, ap, subst, ◌∙◌}
use Rattle.std.specs.Arc.{arc_value}
use Rattle.r_rule.specs.Optimised.{PlainOptimised}
use Rattle.cc_emit.specs.Image.{function_items}
use Rattle.cc_emit.specs.Laws.{IsFunction}
use Rattle.cc_emit.proofs.lemmas.Answered.{answer_at, items_more}
use Rattle.cc_emit.proofs.functions.all_items.Goals as goal

pub function_items-requires : goal.function_items-requires
function_items-requires c =
    let a = c.answer-item.result in
    let is = c.behind-answer.view_is ∙ c.deref.ensures in
    subst (λ (o : PlainOptimised). IsFunction o.lambda) (sym is)
    (c.requires c.loop-answer.answer-index (arc_value a).lambda
    (answer_at c.args.form arc_value c.args.answers.now c.loop-answer.answer-index a c.loop-answer-test.true c.answer-item.is))

pub loop-answer-preserved : goal.loop-answer-preserved
loop-answer-preserved c =
    let a = c.answer-item.result in
    let is = c.behind-answer.view_is ∙ c.deref.ensures in
    items_more c.args.form arc_value c.args.answers.now c.loop-answer.answer-index a c.loop-answer-test.true c.answer-item.is c.loop-answer.all.items c.push.new.self.items
    c.in_ok-function_items.field-0 c.loop-answer.invariant (c.in_ok-function_items.ensures ∙ ap (λ (o : PlainOptimised). function_items c.args.form o.lambda) is)
    c.in_ok-push.ensures.items
