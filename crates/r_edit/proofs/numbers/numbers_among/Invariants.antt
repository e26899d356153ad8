use Rattle.std.proofs.Common.{◌≡◌, ℕ, ◌+◌, drop}
use Rattle.std.specs.Ordering.{nat_cmp}
use Rattle.std.specs.BTreeMap.{get}
use Rattle.r_edit.specs.Numbering.{number_among}
use Rattle.r_edit.proofs.numbers.numbers_among.Given as goal

-- what the numbers from an index on become
abbrev pub invariant-loop-i : goal.invariant-loop-i
invariant-loop-i l = (n : ℕ) → get nat_cmp l.numbers n ≡ number_among (l.next + l.i) (drop l.i l.ids) n
