-- The regions so far are grown.
use Rattle.std.proofs.Common.{◌≡◌}
use Rattle.g_graph.proofs.lemmas.Mapped.{mapped}
use Rattle.r_push.specs.Walk.{grown}
use Rattle.r_push.proofs.staying.grow_all.Given as goal

abbrev pub invariant-loop-i : goal.invariant-loop-i
invariant-loop-i l = l.regions.items ≡ mapped (grown l.loops l.more) 0 l.i l.initial.regions.items
