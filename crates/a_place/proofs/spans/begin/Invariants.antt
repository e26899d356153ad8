use Rattle.std.proofs.Common.{◌≡◌, ◌≤◌, ◌<◌, ℕ, if◌then◌else◌, length, drop, slice_index_or}
use Rattle.a_place.specs.Places.{above, among}
use Rattle.a_place.specs.Sweep.{begun}
use Rattle.a_place.specs.declared.spans.Span.{Span}
use Rattle.a_place.proofs.spans.begin.Given as goal

abbrev pub invariant-loop-name : goal.invariant-loop-name
invariant-loop-name l = record {
  below : above (drop l.name-index l.names) ≤ length l.spans;
  left : (x : ℕ) (d : Span) → x < length l.spans → (if among x (drop l.name-index l.names) then begun l.position l.end
      (slice_index_or l.spans x d) else slice_index_or l.spans x d)
      ≡ (if among x l.names then begun l.position l.end (slice_index_or l.fn.spans x d) else slice_index_or l.fn.spans x d);
}
