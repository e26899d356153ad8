use Rattle.std.proofs.Common.{map, sym, ap, ◌∙◌, slice_get}
use Rattle.std.specs.Arc.{arc_value}
use Rattle.s_linear.specs.declared.frame.CodeForm.TheVariants.{Plain}
use Rattle.cc_emit.specs.Image.{lambdas_of}
use Rattle.cc_emit.proofs.lemmas.Lambdas.{is_function}
use Rattle.cc_emit.specs.Images.{frames}
use Rattle.cc_view_source.specs.declared.making.Made.{Made}
use Rattle.cc_view.proofs.StackLines.{explained}
use Rattle.cc_view.proofs.accepted.accepted_text.Goals as goal

pub frames-requires : goal.frames-requires
frames-requires c f l e =
    let answers = c.deref.ensures.value ∙ ap (λ (m : Made). m.answers.items) c.made.view_is in
    is_function c.args.made.now.omega (lambdas_of (map arc_value c.args.made.now.answers.items)) c.requires f l
    (ap (λ xs. slice_get (lambdas_of (map arc_value xs)) f) (sym answers) ∙ e)

pub push_stack-requires-clause-framed : goal.push_stack-requires-clause-framed
push_stack-requires-clause-framed c =
    let answers = c.deref.ensures.value ∙ ap (λ (m : Made). m.answers.items) c.made.view_is in
    c.deref-4.ensures.value ∙ (c.in_ok-frames.ensures ∙ ap (λ xs. frames Plain (lambdas_of (map arc_value xs))) answers)

pub returns : goal.returns
returns c =
    let ls = lambdas_of (map arc_value c.args.made.now.answers.items) in
    let answers = c.deref.ensures.value ∙ ap (λ (m : Made). m.answers.items) c.made.view_is in
    let sizes = c.deref-3.ensures.value ∙ (c.in_ok-frames.ensures ∙ ap (λ xs. frames Plain (lambdas_of (map arc_value xs))) answers) in
    let names = c.deref-2.ensures.value ∙ ap (λ (m : Made). m.omega.names) c.made.view_is in
    explained c.args.made.now.omega ls c.new-out.result.items c.push_code.new.out.items c.push_frames.new.out.items c.push_stack.new.out.items c.deref-3.result.now c.in_ok-code_bytes.field-0
    c.deref-2.result.now c.new-out.ensures.items c.in_ok-code_bytes.ensures c.in_ok-push_code.ensures sizes names c.in_ok-push_frames.ensures c.in_ok-push_stack.ensures
