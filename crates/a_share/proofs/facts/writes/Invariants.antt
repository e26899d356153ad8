-- What holds before each turn of the loops of `writes`.
use Rattle.std.proofs.Common.{◌≡◌, ◌<◌, ℕ, [], ◌++◌, length, map, drop, slice_index_or}
use Rattle.s_linear.specs.Views.{line_of}
use Rattle.a_share.specs.Tables.{does_write, positions}
use Rattle.a_share.proofs.facts.writes.Given as goal

abbrev pub invariant-loop-position : goal.invariant-loop-position
invariant-loop-position l = record {
  count : length l.writes ≡ l.count;
  writes : (x : ℕ) → x < l.count → slice_index_or l.writes x [] ++ positions (does_write x) l.position (map line_of (drop l.position l.lines))
      ≡ positions (does_write x) 0 (map line_of l.lines);
}
