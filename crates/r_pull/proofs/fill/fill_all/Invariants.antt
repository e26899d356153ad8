use Rattle.r_pull.proofs.Filled.{Filling}
use Rattle.r_pull.proofs.fill.fill_all.Given as goal

abbrev pub invariant-loop-i : goal.invariant-loop-i
invariant-loop-i l = Filling l.stays l.i l.initial.regions.items l.regions.items l.initial.lists.items l.lists.items
