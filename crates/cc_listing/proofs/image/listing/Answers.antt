-- The parts one after the other are the listing.
use Rattle.std.proofs.Common.{◌≡◌, ◌++◌, ap, ◌∙◌, map}
use Rattle.std.specs.Arc.{arc_value}
use Rattle.elf_file.specs.Image.{Sections, sections_of}
use Rattle.g_graph.specs.Plain.{PlainOmega}
use Rattle.cc_emit.specs.Image.{lambdas_of}
use Rattle.cc_listing.specs.Globals.{fixed_text, others_text}
use Rattle.cc_listing.specs.Lines.{sections_text, text_of}
use Rattle.cc_listing.specs.Symbols.{commands_text}
use Rattle.cc_listing.specs.Words.{words_in}
use Rattle.cc_listing.proofs.image.listing.Goals as goal

pub returns : goal.returns
returns c =
    let ls = lambdas_of (map arc_value c.args.answers.now) in
    let names = c.args.omega.now.names in
    let globals = c.args.globals.now in
    let image = c.args.image.now in
    let ds = c.deref.result.now in
    let commands = commands_text image.fixed_at image.data_at in
    let code = text_of names ls (words_in image.text.items) in
    let first : c.push_commands.new.out.items ≡ commands = c.in_ok-push_commands.ensures ∙ ap (λ t. t ++ commands) c.new-out.ensures.items in
    let second : c.push_code.new.out.items ≡ commands ++ code = c.in_ok-push_code.ensures ∙ ap (λ t. t ++ code) first in
    let third : c.push_globals.new.out.items ≡ sections_text names globals ls ds (sections_of image) =
    c.in_ok-push_globals.ensures
    ∙ ap (λ t. t ++ fixed_text globals ds (words_in image.fixed.items) ++ others_text globals ds (words_in image.globals.items)) second in
    let deltas : ds ≡ c.args.omega.now.deltas = c.deref.ensures.value ∙ ap (λ (o : PlainOmega). o.deltas) c.omega.view_is in
    record {
      globals = globals;
      all =
          third ∙ ap (λ x. sections_text names globals ls x (sections_of image)) deltas
          ∙ ap (λ (s : Sections). sections_text names globals ls c.args.omega.now.deltas s) c.requires.image;
    }
