-- The lists so far are in the index.
use Rattle.std.proofs.Common.{◌≡◌}
use Rattle.g_arena_use.proofs.MadeLemmas.{part_of}
use Rattle.g_arena_use.proofs.use_lists.index_of.Given as goal

abbrev pub invariant-loop-site : goal.invariant-loop-site
invariant-loop-site l = l.uses ≡ part_of l.fn.names l.sites l.cells l.site-index
