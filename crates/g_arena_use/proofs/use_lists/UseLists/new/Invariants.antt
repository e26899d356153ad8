-- The lists that came so far are stored.
use Rattle.g_arena_use.proofs.MadeLemmas.{Made}
use Rattle.g_arena_use.proofs.use_lists.UseLists.new.Given as goal

abbrev pub invariant-loop-list : goal.invariant-loop-list
invariant-loop-list l = Made l.sites.items l.owners.items l.yielded
