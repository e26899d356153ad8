-- What follows on the last line end, as far as the loop has come.
use Rattle.std.proofs.Common.{◌≡◌, ◌≤◌, drop, take}
use Rattle.cc_report.specs.Excerpt.{last_line}
use Rattle.cc_report.proofs.lines.line_start.Given as goal

abbrev pub invariant-loop-index : goal.invariant-loop-index
invariant-loop-index l = record { within : l.start ≤ l.index; line : drop l.start (take l.index l.bytes) ≡ last_line (take l.index l.bytes) }
