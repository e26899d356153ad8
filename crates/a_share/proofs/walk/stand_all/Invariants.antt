-- What holds before each turn of the loops of `stand_all`.
use Rattle.std.proofs.Common.{◌≡◌, ◌≤◌, ◌<◌, ℕ, length, slice_get}
use Rattle.std.specs.Prelude.{Some}
use Rattle.a_share.proofs.walk.stand_all.Given as goal

abbrev pub invariant-loop-position : goal.invariant-loop-position
invariant-loop-position l = record {
  toggles : l.needs.toggles ≡ l.fn.needs.toggles;
  changed : l.needs.changed ≡ l.fn.needs.changed;
  copies : l.needs.copies ≡ l.fn.needs.copies;
  size : length l.needs.depths.items ≡ length l.fn.needs.depths.items;
  depths : (i : ℕ) → l.first ≤ i → i < l.position → i < length l.fn.needs.depths.items → slice_get l.needs.depths.items i ≡ Some l.depth;
  others : (i : ℕ) → l.end ≤ i → slice_get l.needs.depths.items i ≡ slice_get l.fn.needs.depths.items i;
}
