-- The pieces put together.
use Rattle.std.proofs.Common.{◌++◌, ◌∙◌, ap, false}
use Rattle.std.proofs.lemmas.Result.{on_ok_weaker}
use Rattle.cc_listing.specs.Globals.{buffer_text, section_text}
use Rattle.cc_listing.proofs.Pushed.{two}
use Rattle.cc_listing.proofs.globals.push_others.Goals as goal

pub returns : goal.returns
returns c =
    let names = c.args.names.now in
    let ds = c.args.deltas.now in
    on_ok_weaker c.push_section.result
    (λ written. written
    ∙ two c.args.out.now.items buffer_text (section_text names false 0 ds c.cut.result.1.now) _ c.in_ok-push.ensures
    ∙ ap (λ ws. c.args.out.now.items ++ (buffer_text ++ section_text names false 0 ds ws)) c.cut.ensures.back)
    c.push_section.ensures
