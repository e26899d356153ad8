-- The cells that came so far are of the new list.
use Rattle.std.proofs.Common.{◌≡◌, ◌++◌, replicate}
use Rattle.g_arena_use.proofs.use_lists.add_site.Given as goal

abbrev pub invariant-loop-cell_ : goal.invariant-loop-cell_
invariant-loop-cell_ l = l.owners.items ≡ l.fn.owners.items ++ replicate l.cell_ l.at
