use Rattle.std.proofs.Common.{sym, ap, subst, ◌∙◌, IsTrue}
use Rattle.g_graph.specs.Plain.{PlainLambda}
use Rattle.g_graph.specs.WellFormed.{all_of}
use Rattle.s_linear.specs.Lines.{names_below}
use Rattle.s_linear.specs.declared.frame.Frame.{Frame}
use Rattle.s_linear.specs.declared.frame.CodeForm.TheVariants.{Plain}
use Rattle.a_place.specs.Places.{places}
use Rattle.cc_emit.proofs.lemmas.Lambdas.{names_fit, frame_fits_here}
use Rattle.cc_view.proofs.FrameLemmas.{frame-is}
use Rattle.cc_view.proofs.frames.frame_of.Goals as goal

pub place-requires : goal.place-requires
place-requires c = subst (λ ls. IsTrue (all_of (names_below 4294967295) ls)) (sym c.in_ok-linear.ensures) (names_fit c.args.lambda.now c.requires)

pub frame-requires : goal.frame-requires
frame-requires c =
    frame_fits_here Plain c.args.lambda.now c.in_ok-linear.linear c.in_ok-places.places c.deref.result.now c.in_ok-linear.ensures
    (c.in_ok-places.ensures ∙ ap places c.in_ok-linear.ensures) (c.deref.ensures.value ∙ ap (λ (l : PlainLambda). l.objects) c.lambda.view_is) c.requires

pub returns : goal.returns
returns c =
    ap (λ (f : Frame). f.size) c.frame.ensures
    ∙ frame-is c.args.lambda.now c.in_ok-linear.linear c.in_ok-places.places c.deref.result.now c.in_ok-linear.ensures c.in_ok-places.ensures
    (c.deref.ensures.value ∙ ap (λ (l : PlainLambda). l.objects) c.lambda.view_is)
