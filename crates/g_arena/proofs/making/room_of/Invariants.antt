-- The uses so far, with those of the lists that are left, are all of them.
use Rattle.std.proofs.Common.{◌≡◌, ◌+◌, drop}
use Rattle.g_arena_use.specs.Lists.{origins_in}
use Rattle.g_arena.proofs.making.room_of.Given as goal

abbrev pub invariant-loop-list : goal.invariant-loop-list
invariant-loop-list l = l.room + origins_in (drop l.list-index l.lists) ≡ origins_in l.lists
