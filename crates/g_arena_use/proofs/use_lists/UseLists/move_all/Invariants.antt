-- The renamed lists stay the same while uses move, and ever fewer are left.
use Rattle.std.proofs.Common.{◌≡◌}
use Rattle.g_arena_use.specs.Lists.{uses_of, all_renamed, moved}
use Rattle.g_arena_use.proofs.use_lists.UseLists.move_all.Given as goal

abbrev pub invariant-loop-used : goal.invariant-loop-used
invariant-loop-used l =
    (l.self.names ≡ l.fn.self.names) × (l.self.room ≡ l.fn.self.room) × (all_renamed l.used.home (moved l.used.of l.to) l.self.lists ≡ all_renamed l.used.home (moved l.used.of l.to) l.fn.self.lists)

abbrev pub decreases-loop-used : goal.decreases-loop-used
decreases-loop-used l = uses_of l.used l.self.lists
