use Rattle.std.proofs.Common.{◌≡◌, ◌++◌, take}
use Rattle.cc_report.proofs.line.push_text.Given as goal

-- the text so far
abbrev pub invariant-loop-byte : goal.invariant-loop-byte
invariant-loop-byte l = l.line ≡ l.initial.line ++ take l.byte-index l.text
