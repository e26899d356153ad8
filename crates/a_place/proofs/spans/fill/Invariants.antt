use Rattle.std.proofs.Common.{◌≡◌, ◌≤◌, ◌<◌, ℕ, length, map, drop, slice_index_or}
use Rattle.s_linear.specs.Views.{line_of}
use Rattle.a_place.specs.Sweep.{span_from}
use Rattle.a_place.specs.declared.spans.Span.{Span}
use Rattle.a_place.proofs.spans.fill.Given as goal

abbrev pub invariant-loop-position : goal.invariant-loop-position
invariant-loop-position l = record {
  within : l.position ≤ length l.lines;
  filled : (x : ℕ) (d : Span) → x < length l.spans → slice_index_or l.spans x d ≡ span_from l.position (map line_of (drop l.position l.lines)) x;
}

abbrev pub decreases-loop-position : goal.decreases-loop-position
decreases-loop-position l = l.position
