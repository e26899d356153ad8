-- The bytes so far are written as they are shown.
use Rattle.std.proofs.Common.{◌≡◌, ◌++◌, map, take}
use Rattle.cc_report.specs.Excerpt.{shown}
use Rattle.cc_report.proofs.shown.push_shown.Given as goal

abbrev pub invariant-loop-byte : goal.invariant-loop-byte
invariant-loop-byte l = l.out.items ≡ l.fn.out.items ++ map shown (take l.byte-index l.bytes)
