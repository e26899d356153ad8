use Rattle.std.proofs.lemmas.Result.{IfOk-weaker}
use Rattle.cc_view.specs.Explanation.{IsRefusalText}
use Rattle.cc_view.proofs.RefusalPlace.{found_at, not_found}
use Rattle.cc_view.proofs.refused.refused_text.Goals as goal

pub returns-in-Some : goal.returns-in-Some
returns-in-Some c =
    let source = c.args.source.now in
    let fault = c.args.fault in
    let refusal = c.args.refusal.now in
    IfOk-weaker c.refused_at.result _ (λ text. IsRefusalText source fault refusal text.items)
    (λ text is. found_at c.lines_are_of_offsets.ensures source fault refusal c.requires.refused c.in-Some.at text.items c.in-Some.ensures.value is) c.refused_at.ensures

pub returns-in-None : goal.returns-in-None
returns-in-None c = not_found c.lines_are_of_offsets.ensures c.args.source.now c.args.fault c.args.refusal.now c.requires.refused _ c.in-None.ensures.value
