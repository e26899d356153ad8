-- What holds before each turn of the loops of `name_count`.
use Rattle.std.proofs.Common.{◌≡◌, max, map, drop}
use Rattle.s_linear.specs.Views.{line_of}
use Rattle.a_place.specs.Places.{name_count}
use Rattle.a_share.proofs.reading.name_count.Given as goal

abbrev pub invariant-loop-line : goal.invariant-loop-line
invariant-loop-line l = max l.count (name_count (map line_of (drop l.line-index l.lines))) ≡ name_count (map line_of l.lines)
