-- The words are those of the image's text.
use Rattle.std.proofs.Common.{◌≡◌, ◌++◌, ap, ◌∙◌, map}
use Rattle.std.specs.Arc.{arc_value}
use Rattle.std.proofs.lemmas.Result.{on_ok_weaker}
use Rattle.elf_file.specs.Image.{Sections}
use Rattle.g_graph.specs.Plain.{PlainOmega}
use Rattle.cc_emit.specs.Image.{lambdas_of}
use Rattle.cc_emit.proofs.lemmas.Lambdas.{is_function}
use Rattle.cc_listing.specs.Lines.{text_of}
use Rattle.cc_listing.specs.Words.{words_in}
use Rattle.cc_listing.proofs.ImageLemmas.{start_is_there, functions_are_there, functions_are_short}
use Rattle.cc_listing.proofs.image.push_code.Goals as goal

pub push_text-requires-clause-functions : goal.push_text-requires-clause-functions
push_text-requires-clause-functions c = is_function c.args.omega.now (lambdas_of (map arc_value c.args.answers.now)) c.requires.program

pub push_text-requires-clause-there : goal.push_text-requires-clause-there
push_text-requires-clause-there c =
    start_is_there c.args.omega.now (lambdas_of (map arc_value c.args.answers.now)) c.requires.program c.deref-3.result.now
    (c.deref-3.ensures.value ∙ c.in_ok-words.ensures ∙ ap words_in (c.deref.ensures.value ∙ ap (λ (s : Sections). s.text) c.requires.image))

pub push_text-requires-clause-whole : goal.push_text-requires-clause-whole
push_text-requires-clause-whole c =
    functions_are_there c.args.omega.now (lambdas_of (map arc_value c.args.answers.now)) c.requires.program c.deref-3.result.now
    (c.deref-3.ensures.value ∙ c.in_ok-words.ensures ∙ ap words_in (c.deref.ensures.value ∙ ap (λ (s : Sections). s.text) c.requires.image))

pub push_text-requires-clause-end : goal.push_text-requires-clause-end
push_text-requires-clause-end c =
    functions_are_short c.args.omega.now (lambdas_of (map arc_value c.args.answers.now)) c.requires.program c.deref-3.result.now
    (c.deref-3.ensures.value ∙ c.in_ok-words.ensures ∙ ap words_in (c.deref.ensures.value ∙ ap (λ (s : Sections). s.text) c.requires.image))

pub returns : goal.returns
returns c =
    let ls = lambdas_of (map arc_value c.args.answers.now) in
    let out = c.args.out.now.items in
    let named : c.deref-2.result.now ≡ c.args.omega.now.names = c.deref-2.ensures.value ∙ ap (λ (o : PlainOmega). o.names) c.omega.view_is in
    let are : c.deref-3.result.now ≡ words_in c.args.image.now.text.items = c.deref-3.ensures.value ∙ c.in_ok-words.ensures ∙ ap words_in c.deref.ensures.value in
    on_ok_weaker c.push_text.result
    (λ written. written ∙ ap (λ ns. out ++ text_of ns ls c.deref-3.result.now) named ∙ ap (λ ws. out ++ text_of c.args.omega.now.names ls ws) are)
    c.push_text.ensures
