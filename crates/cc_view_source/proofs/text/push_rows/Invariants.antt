-- The loop over the sweeps: what is left comes after what is written.
use Rattle.std.proofs.Common.{◌≡◌, ◌++◌, ◌+◌, drop}
use Rattle.cc_view_source.specs.Tables.{rows_text}
use Rattle.cc_view_source.proofs.text.push_rows.Given as goal

-- what is left comes after what is written
abbrev pub invariant-loop-index : goal.invariant-loop-index
invariant-loop-index l = l.out.items ++ rows_text (l.index + 1) (drop l.index l.counts) ≡ l.fn.out.items ++ rows_text 1 l.counts
