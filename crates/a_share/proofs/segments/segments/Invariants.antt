-- What holds before each turn of the loops of `segments`.
use Rattle.std.proofs.Common.{◌≡◌, ◌<◌, [], ℕ, map, length, slice_index_or}
use Rattle.a_share.specs.Bounds.{bounds_of}
use Rattle.a_share.specs.Pairs.{IsMadeOf}
use Rattle.a_share.proofs.segments.segments.Given as goal

abbrev pub invariant-loop-name : goal.invariant-loop-name
invariant-loop-name l = record {
  size : length l.segments.items ≡ l.name;
  made : (x : ℕ) → x < l.name → IsMadeOf l.end (bounds_of l.toggles x) (slice_index_or (map (λ v. v.items) l.segments.items) x []);
}
