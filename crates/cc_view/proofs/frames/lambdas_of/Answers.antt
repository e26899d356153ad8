use Rattle.std.proofs.Common.{◌∷◌, [], ◌++◌, map, take, sym, ap, ◌∙◌}
use Rattle.std.specs.Arc.{arc_value}
use Rattle.r_rule.specs.Optimised.{PlainOptimised}
use Rattle.cc_emit.specs.Image.{lambdas_of}
use Rattle.cc_view.proofs.FrameLemmas.{lambdas-more}
use Rattle.cc_view.proofs.frames.lambdas_of.Goals as goal

pub loop-answer-preserved : goal.loop-answer-preserved
loop-answer-preserved c =
    let a = c.answer-item.result in
    let is = c.behind-answer.view_is ∙ c.deref.ensures in
    let copy = c.in_ok-copy_of.ensures ∙ ap (λ (o : PlainOptimised). o.lambda) is in
    c.in_ok-push.ensures.items
    ∙ (ap (λ xs. xs ++ c.in_ok-copy_of.field-0 ∷ []) c.loop-answer.invariant
    ∙ (ap (λ l. lambdas_of (map arc_value (take c.loop-answer.answer-index c.args.answers.now)) ++ l ∷ []) copy
    ∙ sym (lambdas-more arc_value c.args.answers.now c.loop-answer.answer-index a c.loop-answer-test.true c.answer-item.is)))
