-- The first lists are cleared.
use Rattle.std.proofs.Common.{◌≡◌}
use Rattle.g_arena.specs.Gone.{cleared}
use Rattle.g_arena.proofs.arena.clear_lists.Given as goal

abbrev pub invariant-loop-k : goal.invariant-loop-k
invariant-loop-k l = l.lists ≡ record l.fn.lists { lists = cleared l.first l.k l.fn.lists.lists }
