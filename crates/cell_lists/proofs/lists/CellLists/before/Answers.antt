-- The link of a cell has its neighbours in its list.
use Rattle.std.proofs.Common.{◌<◌, length, arith}
use Rattle.std.proofs.lemmas.Grind.{common_steps}
use Rattle.cell_lists.proofs.StoreLemmas.{cell_in_list, within, neighbours_read}
use Rattle.cell_lists.proofs.lists.CellLists.before.Goals as goal

pub index-requires : goal.index-requires
index-requires c =
    let lt : c.args.cell < length c.self.inside.links.items =
    within _ _ _ _ (cell_in_list c.self.inside.links.items c.self.inside.lists.items _ c.args.cell c.requires.0 c.self.view_is c.self.invariant c.requires.1) in
    grind (arith, common_steps)

pub returns : goal.returns
returns c k i =
    (neighbours_read c.self.inside.links.items c.self.inside.lists.items _ c.args.cell k _ c.self.view_is c.self.invariant i c.index.ensures).before
