use Rattle.std.proofs.Common.{◌+◌, cond, sym, ap, ◌∙◌}
use Rattle.r_edit.specs.Places.{place_after}
use Rattle.r_edit.proofs.lemmas.PlacesInPlace.{place_next}
use Rattle.r_edit.proofs.entries.gone_at.Goals as goal

pub returns-then-stays_at-clause-value : goal.returns-then-stays_at-clause-value
returns-then-stays_at-clause-value c =
    let ts = c.args.stays.now in
    let k = c.args.place in
    ap (λ t. cond t 0 1 + place_after ts (k + 1)) (sym c.if-stays_at.true ∙ c.stays_at.ensures) ∙ place_next ts k

pub returns-else-stays_at-clause-value : goal.returns-else-stays_at-clause-value
returns-else-stays_at-clause-value c =
    let ts = c.args.stays.now in
    let k = c.args.place in
    ap (λ t. cond t 0 1 + place_after ts (k + 1)) (sym c.if-stays_at.false ∙ c.stays_at.ensures) ∙ place_next ts k
