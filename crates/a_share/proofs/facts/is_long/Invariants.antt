-- What holds before each turn of the loops of `is_long`.
use Rattle.std.proofs.Common.{◌≡◌, map, drop}
use Rattle.s_linear.specs.Views.{line_of}
use Rattle.a_share.specs.Tables.{is_long_in}
use Rattle.a_share.proofs.facts.is_long.Given as goal

abbrev pub invariant-loop-segment : goal.invariant-loop-segment
invariant-loop-segment l = is_long_in l.name (map line_of l.lines) (drop l.segment-index l.segments) ≡ is_long_in l.name (map line_of l.lines) l.segments
