-- What holds before each turn of the loops of `copied`.
use Rattle.std.proofs.Common.{◌≡◌, ◌<◌, ℕ, [], ◌++◌, length, map, drop, slice_index_or}
use Rattle.s_linear.specs.Views.{line_of}
use Rattle.a_share.specs.Tables.{copied_in}
use Rattle.a_share.proofs.facts.copied.Given as goal

abbrev pub invariant-loop-position : goal.invariant-loop-position
invariant-loop-position l = record {
  count : length l.copied ≡ l.count;
  copied : (x : ℕ) → x < l.count → slice_index_or l.copied x [] ++ copied_in x (map line_of (drop l.position l.lines)) (drop l.position l.chosen)
      ≡ copied_in x (map line_of l.lines) l.chosen;
}
