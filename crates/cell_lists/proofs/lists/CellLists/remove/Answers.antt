-- A cell that goes from its list: it and its neighbours are cells, and the lists are as they are to be.
use Rattle.std.proofs.Common.{◌<◌, length, sym, subst, arith}
use Rattle.std.specs.Prelude.{List}
use Rattle.std.proofs.lemmas.Option.{slice_get_within}
use Rattle.std.proofs.lemmas.Grind.{common_steps}
use Rattle.cell_lists.specs.declared.links.Link.{Link}
use Rattle.cell_lists.specs.Linked.{IsCell}
use Rattle.cell_lists.proofs.StoreLemmas.{cell_in_list, within, link_of, stored_at, stored_of, before_within, after_within_with, has_cell, has_falls, remove_done}
use Rattle.cell_lists.proofs.lists.CellLists.remove.Goals as goal

pub index-link-requires : goal.index-link-requires
index-link-requires c =
    let lt : c.args.cell < length c.self.inside.links.items =
    within _ _ _ _ (cell_in_list c.self.inside.links.items c.self.inside.lists.items _ c.args.cell c.requires.0 c.self.view_is c.self.invariant c.requires.1) in
    grind (arith, common_steps)

pub set_after-requires : goal.set_after-requires
set_after-requires c =
    let p = stored_at c.self.inside.links.items c.self.inside.lists.items c.args.self.now c.args.cell c.index-link.result.now (record { linked = c.self.invariant; seen = c.self.view_is })
    c.requires c.index-link.ensures in
    before_within c.self.inside.links.items c.self.inside.lists.items c.args.cell c.index-link.result.now p.0 p.1

pub set_before-requires : goal.set_before-requires
set_before-requires c =
    let p = stored_at c.self.inside.links.items c.self.inside.lists.items c.args.self.now c.args.cell c.index-link.result.now (record { linked = c.self.invariant; seen = c.self.view_is })
    c.requires c.index-link.ensures in
    let P : List Link → Type 0 = λ links. IsCell links c.index-link.result.now.after in
    subst P (sym c.set_after.ensures) (after_within_with c.self.inside.links.items c.self.inside.lists.items c.args.cell c.index-link.result.now p.0 c.index-link.result.now.after p.1)

pub index-ends-requires : goal.index-ends-requires
index-ends-requires c =
    let p = link_of c.self.inside.links.items c.self.inside.lists.items c.args.self.now c.args.cell c.index-link.result.now (record { linked = c.self.invariant; seen = c.self.view_is }) c.requires
    c.index-link.ensures in
    let lt : c.index-link.result.now.list < length c.self.inside.lists.items = slice_get_within _ _ p.ends p.at in
    grind (arith, common_steps)

pub without_cell-requires-clause-some : goal.without_cell-requires-clause-some
without_cell-requires-clause-some c =
    has_cell c.self.inside.links.items c.self.inside.lists.items c.args.cell c.index-link.result.now c.index-ends.result.now
    (stored_of _ _ c.args.self.now _ _ _ (record { linked = c.self.invariant; seen = c.self.view_is }) c.requires c.index-link.ensures c.index-ends.ensures)

pub without_cell-requires-clause-falls : goal.without_cell-requires-clause-falls
without_cell-requires-clause-falls c =
    has_falls c.self.inside.links.items c.self.inside.lists.items c.args.cell c.index-link.result.now c.index-ends.result.now
    (stored_of _ _ c.args.self.now _ _ _ (record { linked = c.self.invariant; seen = c.self.view_is }) c.requires c.index-link.ensures c.index-ends.ensures)

pub index_mut-requires : goal.index_mut-requires
index_mut-requires c =
    let p = link_of c.self.inside.links.items c.self.inside.lists.items c.args.self.now c.args.cell c.index-link.result.now (record { linked = c.self.invariant; seen = c.self.view_is }) c.requires
    c.index-link.ensures in
    let lt : c.index-link.result.now.list < length c.self.inside.lists.items = slice_get_within _ _ p.ends p.at in
    grind (arith, common_steps)

pub invariant_of-self : goal.invariant_of-self
invariant_of-self c =
    (remove_done c.self.inside.links.items c.self.inside.lists.items c.args.self.now c.args.cell c.index-link.result.now c.index-ends.result.now _ _ _
    (record { linked = c.self.invariant; seen = c.self.view_is })
    (stored_of _ _ c.args.self.now _ _ _ (record { linked = c.self.invariant; seen = c.self.view_is }) c.requires c.index-link.ensures c.index-ends.ensures)
    c.set_after.ensures c.set_before.ensures c.without_cell.ensures).linked

pub returns : goal.returns
returns c =
    (remove_done c.self.inside.links.items c.self.inside.lists.items c.args.self.now c.args.cell c.index-link.result.now c.index-ends.result.now _ _ _
    (record { linked = c.self.invariant; seen = c.self.view_is })
    (stored_of _ _ c.args.self.now _ _ _ (record { linked = c.self.invariant; seen = c.self.view_is }) c.requires c.index-link.ensures c.index-ends.ensures)
    c.set_after.ensures c.set_before.ensures c.without_cell.ensures).seen
