use Rattle.std.proofs.Common.{◌<◌, ◌+◌, ◌++◌, take, drop, length, sym, ap, ◌∙◌, arith}
use Rattle.std.proofs.lemmas.List.{length-set}
use Rattle.r_edit.specs.Places.{kept}
use Rattle.r_edit.proofs.lemmas.PlacesInPlace.{moved_stays, moved_rest, goes, rest_after}
use Rattle.r_edit.proofs.places.move_kept.Goals as goal
use Rattle.r_edit.proofs.places.move_kept.Goals.{then-stays_at, else-stays_at}

pub loop-from-preserved : goal.loop-from-preserved
loop-from-preserved g c =
    let invariant = c.loop-from.invariant in
    let from = c.loop-from.from in
    let within : from < length c.loop-from.items = omega (arith, c.loop-from-test.true, invariant.same) in
    elim c.if-stays_at.branch [
      | then-stays_at w ↦
          let x = w.index-items-from.result in
          record {
            bound = omega (arith, w.to-is, invariant.bound);
            same = ap length w.items-is ∙ length-set c.loop-from.items c.loop-from.to x ∙ invariant.same;
            moved = (λ j. take (w.to-is j) (w.items-is j) ++ kept (drop (from + 1) c.args.stays.now) (drop (from + 1) c.args.items.now))
                ∙ moved_stays c.args.stays.now c.args.items.now c.loop-from.items c.loop-from.to from within invariant.rest x w.index-items-from.is invariant.bound
                (sym c.stays_at.ensures ∙ w.if-stays_at.true)
                invariant.moved;
            rest = ap (drop (from + 1)) w.items-is ∙ moved_rest c.args.stays.now c.args.items.now c.loop-from.items c.loop-from.to from within invariant.rest x invariant.bound;
          }
      | else-stays_at w ↦
          record {
            bound = omega (arith, w.to-is, invariant.bound);
            same = ap length w.items-is ∙ invariant.same;
            moved = (λ j. take (w.to-is j) (w.items-is j) ++ kept (drop (from + 1) c.args.stays.now) (drop (from + 1) c.args.items.now))
                ∙ goes c.args.stays.now c.args.items.now c.loop-from.items c.loop-from.to from within invariant.rest (sym c.stays_at.ensures ∙ w.if-stays_at.false) invariant.moved;
            rest = ap (drop (from + 1)) w.items-is ∙ rest_after c.args.stays.now c.args.items.now c.loop-from.items c.loop-from.to from within invariant.rest;
          }
    ]
