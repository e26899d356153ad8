-- The pieces put together.
use Rattle.std.proofs.Common.{◌++◌, ◌∙◌, ap, codes, decimal}
use Rattle.std.proofs.lemmas.Result.{on_ok_weaker}
use Rattle.cc_listing.specs.Lines.{global_text, places_text}
use Rattle.cc_listing.proofs.Pushed.{five}
use Rattle.cc_listing.proofs.functions.push_head.Goals as goal

pub returns : goal.returns
returns c =
    let out = c.args.out.now.items in
    let places = places_text 0 c.args.places.now in
    let symbol = global_text c.args.name.now in
    on_ok_weaker c.push_global.result
    (λ written. written
    ∙ five out (codes "\n# frame ") (decimal c.from.result) (codes ", places") places symbol _ _ _ _ c.in_ok-push.ensures c.in_ok-push_number.ensures
    c.in_ok-push-2.ensures c.in_ok-push_places.ensures
    ∙ ap (λ n. out ++ (codes "\n# frame " ++ decimal n ++ codes ", places" ++ places ++ symbol)) c.from.ensures)
    c.push_global.ensures
