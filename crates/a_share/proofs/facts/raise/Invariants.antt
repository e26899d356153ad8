-- What holds before each turn of the loops of `raise`.
use Rattle.std.proofs.Common.{◌≡◌, ◌≤◌, ◌<◌, ℕ, None, Some, if◌then◌else◌, length, drop, slice_index_or}
use Rattle.a_place.specs.Places.{above, among}
use Rattle.a_share.specs.Tables.{deeper}
use Rattle.a_share.proofs.facts.raise.Given as goal

abbrev pub invariant-loop-name : goal.invariant-loop-name
invariant-loop-name l = record {
  below : above (drop l.name-index l.names) ≤ length l.greatest;
  left : (x : ℕ) → x < length l.greatest → deeper (slice_index_or l.greatest x None) (if among x (drop l.name-index l.names) then Some l.depth else None)
      ≡ deeper (slice_index_or l.fn.greatest x None) (if among x l.names then Some l.depth else None);
}
