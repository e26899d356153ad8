use Rattle.std.proofs.Common.{◌≡◌, ◌++◌, drop}
use Rattle.s_select.specs.Templates.{words}
use Rattle.s_select.proofs.operands.push_words.Given as goal

-- with the instructions that are left, all of them
abbrev pub invariant-loop-i : goal.invariant-loop-i
invariant-loop-i l = l.items.items ++ words (drop l.i-index l.code) ≡ l.fn.items.items ++ words l.code
