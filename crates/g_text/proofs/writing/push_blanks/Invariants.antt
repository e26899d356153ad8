use Rattle.std.proofs.Common.{◌≡◌, ◌++◌}
use Rattle.g_text.specs.Texts.{blanks}
use Rattle.g_text.proofs.writing.push_blanks.Given as goal

-- so many blanks are written
abbrev pub invariant-loop : goal.invariant-loop
invariant-loop l = l.out.items ≡ l.fn.out.items ++ blanks l.counter
