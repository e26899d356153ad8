-- The kinds so far.
use Rattle.std.proofs.Common.{◌≡◌, Some, map, take}
use Rattle.g_arena_nodes.proofs.flatten.all_there.Given as goal

abbrev pub invariant-loop-kind : goal.invariant-loop-kind
invariant-loop-kind l = l.found.items ≡ map Some (take l.kind-index l.kinds)
