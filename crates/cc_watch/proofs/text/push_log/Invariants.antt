use Rattle.std.proofs.Common.{◌≡◌, ◌++◌, take}
use Rattle.cc_watch.specs.Texts.{log_text}
use Rattle.cc_watch.proofs.text.push_log.Given as goal

-- the rows so far are written
abbrev pub invariant-loop-row : goal.invariant-loop-row
invariant-loop-row l = l.out.items ≡ l.initial.out.items ++ log_text (take l.row-index l.rows)
