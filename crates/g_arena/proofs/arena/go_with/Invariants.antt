-- The nodes that were seen are those before the walk and what is left behind it.
use Rattle.std.proofs.Common.{length}
use Rattle.g_arena_use.specs.Plain.{live_from}
use Rattle.g_arena.proofs.WalkLemmas.{Going}
use Rattle.g_arena.proofs.arena.go_with.Given as goal

abbrev pub invariant-loop-next : goal.invariant-loop-next
invariant-loop-next l = Going l.root l.fn.nodes l.fn.inputs l.fn.results l.nodes l.inputs l.results l.next

abbrev pub decreases-loop-next : goal.decreases-loop-next
decreases-loop-next l = length (live_from 0 l.nodes)
