-- What holds before each turn of the loops of `calls_before`.
use Rattle.std.proofs.Common.{◌≡◌, ◌+◌, ◌≤◌, ℕ, map, slice_index_or, vec_len}
use Rattle.s_linear.specs.Views.{line_of}
use Rattle.a_share.specs.Tables.{calls_before}
use Rattle.a_share.proofs.facts.calls_before.Given as goal

abbrev pub invariant-loop-line : goal.invariant-loop-line
invariant-loop-line l = record {
  count : vec_len l.before ≡ l.line-index + 1;
  few : l.calls ≤ l.line-index;
  now : l.calls ≡ calls_before (map line_of l.lines) l.line-index;
  before : (i : ℕ) → i ≤ l.line-index → slice_index_or l.before.items i 0 ≡ calls_before (map line_of l.lines) i;
}
