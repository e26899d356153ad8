-- What holds before each turn of the loops of `new`.
use Rattle.std.proofs.Common.{◌≡◌, ◌<◌, ℕ, slice_index_or, vec_len}
use Rattle.a_share.specs.Held.{IsEmpty, IsHeld}
use Rattle.a_share.specs.Facts.{line_number}
use Rattle.a_share.specs.declared.held.Held.{Held}
use Rattle.a_share.proofs.giving.Giving.new.Given as goal

abbrev pub invariant-loop : goal.invariant-loop
invariant-loop l = record {
  count : vec_len l.held ≡ l.counter;
  held : (p : ℕ) (d : Held) → p < l.counter → IsHeld (line_number l.facts) (slice_index_or l.held.items p d);
  empty : (p : ℕ) (d : Held) → p < l.counter → IsEmpty (slice_index_or l.held.items p d);
}
