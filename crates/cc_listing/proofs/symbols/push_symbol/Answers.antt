-- The pieces put together.
use Rattle.std.proofs.Common.{◌∙◌, codes}
use Rattle.std.proofs.lemmas.Result.{on_ok_weaker}
use Rattle.cc_listing.proofs.Pushed.{five}
use Rattle.cc_listing.proofs.symbols.push_symbol.Goals as goal

pub returns : goal.returns
returns c =
    on_ok_weaker c.push-3.result
    (λ written. written ∙ five c.args.out.now.items (codes "\t.type\t\"") c.args.name.now (codes "\", @function\n\"") c.args.name.now (codes "\":\n") _ _ _ _ c.in_ok-push.ensures c.in_ok-push_bytes.ensures c.in_ok-push-2.ensures c.in_ok-push_bytes-2.ensures)
    c.push-3.ensures
