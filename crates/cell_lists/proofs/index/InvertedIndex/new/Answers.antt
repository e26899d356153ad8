-- Cells that hold no key.
use Rattle.cell_lists.proofs.KeyLemmas.{new_kept}
use Rattle.cell_lists.proofs.index.InvertedIndex.new.Goals as goal

pub invariant_of-result : goal.invariant_of-result
invariant_of-result c =
    (new_kept c.in_ok-keys.keys.items c.in_ok-lists.lists c.args.keys c.args.cells c.in_ok-keys.ensures c.in_ok-lists.ensures).is

pub returns : goal.returns
returns c =
    (new_kept c.in_ok-keys.keys.items c.in_ok-lists.lists c.args.keys c.args.cells c.in_ok-keys.ensures c.in_ok-lists.ensures).seen
