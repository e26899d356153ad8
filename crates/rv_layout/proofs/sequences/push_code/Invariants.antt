use Rattle.std.proofs.Common.{◌≡◌, ◌++◌, drop}
use Rattle.rv_layout.specs.Sequences.{bytes_of}
use Rattle.rv_layout.proofs.sequences.push_code.Given as goal

-- with the bytes of the instructions that are left, all of them
abbrev pub invariant-loop-i : goal.invariant-loop-i
invariant-loop-i l = l.text.items ++ bytes_of (drop l.i-index l.code) ≡ l.fn.text.items ++ bytes_of l.code
