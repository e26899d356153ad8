-- Lists without cells: a clone of what is stored of a cell, or of a list, is it.
use Rattle.cell_lists.proofs.StoreLemmas.{new_seen}
use Rattle.cell_lists.proofs.lists.CellLists.new.Goals as goal

pub returns : goal.returns
returns c =
    new_seen c.in_ok-links.links.items c.in_ok-lists.lists.items c.args.lists c.args.cells
    (c.in_ok-links.ensures.items_if_clones_equal (λ y h. h))
    (c.in_ok-lists.ensures.items_if_clones_equal (λ y h. h))
