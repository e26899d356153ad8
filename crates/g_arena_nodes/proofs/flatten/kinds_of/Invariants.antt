-- The kinds so far, with those that are left, are all of them.
use Rattle.std.proofs.Common.{◌≡◌, ◌++◌, drop}
use Rattle.g_graph.specs.WellFormed.{kinds_of}
use Rattle.g_arena_nodes.proofs.flatten.kinds_of.Given as goal

abbrev pub invariant-loop-entry : goal.invariant-loop-entry
invariant-loop-entry l = l.kinds.items ++ kinds_of (drop l.entry-index l.found) ≡ kinds_of l.found
