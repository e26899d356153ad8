use Rattle.std.proofs.Common.{refl, arith}
use Rattle.r_edit.proofs.lemmas.PlacesInPlace.{place_zero}
use Rattle.r_edit.proofs.entries.count_gone.Goals as goal

pub loop-place-init : goal.loop-place-init
loop-place-init c = record {
  count = omega (arith, place_zero c.args.stays.now);
  same = refl;
  counted = λ k h. absurd (omega (arith, h));
}
