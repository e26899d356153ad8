-- What stands below the bytes so far is written.
use Rattle.std.proofs.Common.{◌≡◌, ◌++◌, map, take}
use Rattle.cc_report.specs.Excerpt.{below}
use Rattle.cc_report.proofs.shown.push_below.Given as goal

abbrev pub invariant-loop-byte : goal.invariant-loop-byte
invariant-loop-byte l = l.out.items ≡ l.fn.out.items ++ map below (take l.byte-index l.bytes)
