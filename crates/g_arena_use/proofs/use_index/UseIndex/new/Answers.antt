-- Cells that hold none.
use Rattle.g_arena_use.proofs.NameLemmas.{new_held}
use Rattle.g_arena_use.proofs.use_index.UseIndex.new.Goals as goal

pub invariant_of-result : goal.invariant_of-result
invariant_of-result c = (new_held c.args.names c.in_ok-index.index c.len.result c.args.cells c.len.ensures.once c.len.ensures.len c.in_ok-index.ensures).is

pub returns : goal.returns
returns c = (new_held c.args.names c.in_ok-index.index c.len.result c.args.cells c.len.ensures.once c.len.ensures.len c.in_ok-index.ensures).seen
