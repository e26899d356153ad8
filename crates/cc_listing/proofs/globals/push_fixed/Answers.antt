-- The pieces put together.
use Rattle.std.proofs.Common.{◌∙◌, codes, true}
use Rattle.std.proofs.lemmas.Result.{on_ok_weaker}
use Rattle.cc_listing.specs.Globals.{section_text}
use Rattle.cc_listing.proofs.Pushed.{two}
use Rattle.cc_listing.proofs.globals.push_fixed.Goals as goal

pub returns : goal.returns
returns c =
    on_ok_weaker c.push_section.result
    (λ written. written
    ∙ two c.args.out.now.items (codes "\n\t.section\t.rodata\n") (section_text c.args.names.now true 0 c.args.deltas.now c.args.words.now) _
    c.in_ok-push.ensures)
    c.push_section.ensures
