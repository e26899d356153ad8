use Rattle.std.proofs.Common.{◌∷◌, [], ◌++◌, map, take, sym, ap, subst, ◌∙◌}
use Rattle.std.specs.Arc.{arc_value}
use Rattle.r_rule.specs.Optimised.{PlainOptimised}
use Rattle.s_linear.specs.declared.frame.CodeForm.TheVariants.{Plain}
use Rattle.cc_emit.specs.Image.{frame_of, lambdas_of}
use Rattle.cc_emit.specs.Laws.{IsFunction}
use Rattle.cc_view.proofs.FrameLemmas.{answer_at, frames-more}
use Rattle.cc_view.proofs.frames.frames.Goals as goal

pub frame_of-requires : goal.frame_of-requires
frame_of-requires c =
    let a = c.answer-item.result in
    let is = c.behind-answer.view_is ∙ c.deref.ensures in
    subst (λ (o : PlainOptimised). IsFunction o.lambda) (sym is)
    (c.requires c.loop-answer.answer-index (arc_value a).lambda
    (answer_at arc_value c.args.answers.now c.loop-answer.answer-index a c.loop-answer-test.true c.answer-item.is))

pub loop-answer-preserved : goal.loop-answer-preserved
loop-answer-preserved c =
    let a = c.answer-item.result in
    let is = c.behind-answer.view_is ∙ c.deref.ensures in
    let size = c.in_ok-frame_of.ensures ∙ ap (λ (o : PlainOptimised). frame_of Plain o.lambda) is in
    c.in_ok-push.ensures.items
    ∙ (ap (λ xs. xs ++ c.in_ok-frame_of.field-0 ∷ []) c.loop-answer.invariant
    ∙ (ap (λ s. map (frame_of Plain) (lambdas_of (map arc_value (take c.loop-answer.answer-index c.args.answers.now))) ++ s ∷ []) size
    ∙ sym (frames-more arc_value c.args.answers.now c.loop-answer.answer-index a c.loop-answer-test.true c.answer-item.is)))
