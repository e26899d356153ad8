-- The pieces put together.
use Rattle.std.proofs.Common.{◌∙◌, codes}
use Rattle.std.proofs.lemmas.Result.{on_ok_weaker}
use Rattle.cc_listing.specs.Globals.{label_text, name_or_number, size_text}
use Rattle.cc_listing.proofs.Pushed.{five}
use Rattle.cc_listing.proofs.globals.push_object.Goals as goal

pub returns : goal.returns
returns c =
    let name = name_or_number c.args.name.now c.args.number in
    on_ok_weaker c.push_label.result
    (λ written. written ∙ five c.args.out.now.items (codes "\t.type\t\"") name (codes "\", @object\n") (size_text name c.args.size) (label_text name) _ _ _ _ c.in_ok-push.ensures c.in_ok-push_name.ensures c.in_ok-push-2.ensures c.in_ok-push_size.ensures)
    c.push_label.ensures
