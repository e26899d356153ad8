-- The functions come after the start code and the stubs.
use Rattle.std.proofs.Common.{ap, arith, length}
use Rattle.std.proofs.lemmas.Result.{on_ok_weaker}
use Rattle.cc_listing.proofs.ImageLemmas.{text_pushed}
use Rattle.cc_listing.proofs.image.push_text.Goals as goal

pub push_functions-requires-clause-whole : goal.push_functions-requires-clause-whole
push_functions-requires-clause-whole c = omega (arith, c.requires.whole, ap length c.cut.ensures.back)

pub push_functions-requires-clause-end : goal.push_functions-requires-clause-end
push_functions-requires-clause-end c = omega (arith, c.requires.end, ap length c.cut.ensures.back)

pub returns : goal.returns
returns c =
    on_ok_weaker c.push_functions.result
    (λ written. text_pushed _ _ c.args.words.now _ c.args.out.now.items _ _ c.in_ok-push_start.ensures c.cut.ensures.back written)
    c.push_functions.ensures
