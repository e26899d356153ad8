-- The lines of a lambda are those of a function whose turns are its own.
use Rattle.std.proofs.Common.{sym, ap, subst, ◌∙◌, IsTrue}
use Rattle.std.proofs.lemmas.Result.{IfOk-weaker}
use Rattle.g_graph.specs.WellFormed.{all_of}
use Rattle.s_linear.specs.Lines.{names_below}
use Rattle.s_sequence.specs.Sequence.{sequenced}
use Rattle.a_place.specs.Places.{places}
use Rattle.s_linear.specs.declared.frame.CodeForm.{CodeForm}
use Rattle.cc_emit.specs.Image.{places_of}
use Rattle.cc_emit.proofs.lemmas.Lambdas.{names_fit}
use Rattle.cc_emit.proofs.functions.places.Goals as goal

pub place-requires : goal.place-requires
place-requires c = subst (λ ls. IsTrue (all_of (names_below 4294967295) ls)) (sym c.requires.lines) (names_fit c.args.lambda.now c.requires.function)

pub share-requires : goal.share-requires
share-requires c = subst (λ ls. IsTrue (all_of (names_below 4294967295) ls)) (sym c.requires.lines) (names_fit c.args.lambda.now c.requires.function)

pub returns-in-Plain : goal.returns-in-Plain
returns-in-Plain c =
    let l = c.args.lambda.now in
    IfOk-weaker c.place.result _ _ (λ p is. is ∙ ap places c.requires.lines ∙ ap (λ (f : CodeForm). places_of f l) (sym c.in-Plain.is)) c.place.ensures

pub returns-in-Tight : goal.returns-in-Tight
returns-in-Tight c =
    let l = c.args.lambda.now in
    let turns = c.sequenced_have_own_turns.ensures l c.requires.function.well_formed in
    IfOk-weaker c.share.result _ _ (λ p is. is (sequenced l) (sym c.requires.lines) turns ∙ ap (λ (f : CodeForm). places_of f l) (sym c.in-Tight.is)) c.share.ensures
