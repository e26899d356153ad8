use Rattle.std.proofs.Common.{sym, ◌∙◌}
use Rattle.r_edit.proofs.lemmas.PlacesInPlace.{stays_get, stays_past}
use Rattle.r_edit.proofs.places.stays_at.Goals as goal

pub returns-in-Some : goal.returns-in-Some
returns-in-Some c =
    let l = c.in-Some.ensures.lookup in
    l.1 ∙ sym (stays_get c.args.stays.now c.args.index c.in-Some.stays.now l.3.0)

pub returns-in-None : goal.returns-in-None
returns-in-None c = let l = c.in-None.ensures.lookup in sym (stays_past c.args.stays.now c.args.index l.3)
