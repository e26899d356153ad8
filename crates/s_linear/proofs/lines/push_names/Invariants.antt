-- The names so far are written.
use Rattle.std.proofs.Common.{◌≡◌, ◌++◌, take}
use Rattle.s_linear.specs.Texts.{names_text}
use Rattle.s_linear.proofs.lines.push_names.Given as goal

-- the names so far are written
abbrev pub invariant-loop-name : goal.invariant-loop-name
invariant-loop-name l = l.out.items ≡ l.fn.out.items ++ names_text (take l.name-index l.names)
