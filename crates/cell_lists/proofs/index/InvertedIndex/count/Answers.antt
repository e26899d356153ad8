-- The list of a key has the cells that hold it.
use Rattle.cell_lists.proofs.KeyLemmas.{list_in, count_kept}
use Rattle.cell_lists.proofs.index.InvertedIndex.count.Goals as goal

pub len-requires : goal.len-requires
len-requires c = list_in c.self.inside.keys.items c.self.inside.lists c.args.self.now (record { is = c.self.invariant; seen = c.self.view_is }) c.args.key c.requires

pub returns : goal.returns
returns c = count_kept c.self.inside.keys.items c.self.inside.lists c.args.self.now (record { is = c.self.invariant; seen = c.self.view_is }) c.args.key _ c.len.ensures.value
