-- A cell for which another stands: it and its neighbours are cells, and the lists are as they are to be.
use Rattle.std.proofs.Common.{ap, ◌+◌, ◌<◌, ◌≤◌, length, sym, subst, arith}
use Rattle.std.specs.Prelude.{List}
use Rattle.std.proofs.lemmas.Option.{slice_get_within}
use Rattle.std.proofs.lemmas.Grind.{common_steps}
use Rattle.cell_lists.specs.declared.links.Link.{Link}
use Rattle.cell_lists.specs.Lists.{Lists}
use Rattle.cell_lists.specs.Linked.{IsCell}
use Rattle.cell_lists.proofs.StoreLemmas.{cell_in_list, within, link_of, stored_at, stored_of, before_within, after_within_with, has_falls, replace_done, room_for_other, length-links}
use Rattle.cell_lists.proofs.lists.CellLists.replace.Goals as goal

pub index-link-requires : goal.index-link-requires
index-link-requires c =
    let lt : c.args.cell < length c.self.inside.links.items =
    within _ _ _ _ (cell_in_list c.self.inside.links.items c.self.inside.lists.items _ c.args.cell c.requires.listed.0 c.self.view_is c.self.invariant c.requires.listed.1) in
    grind (arith, common_steps)

pub set_after-requires : goal.set_after-requires
set_after-requires c =
    let p = stored_at c.self.inside.links.items c.self.inside.lists.items c.args.self.now c.args.cell c.index-link.result.now (record { linked = c.self.invariant; seen = c.self.view_is })
    c.requires.listed c.index-link.ensures in
    before_within c.self.inside.links.items c.self.inside.lists.items c.args.cell c.index-link.result.now p.0 p.1

pub set_before-requires : goal.set_before-requires
set_before-requires c =
    let p = stored_at c.self.inside.links.items c.self.inside.lists.items c.args.self.now c.args.cell c.index-link.result.now (record { linked = c.self.invariant; seen = c.self.view_is })
    c.requires.listed c.index-link.ensures in
    let P : List Link → Type 0 = λ links. IsCell links c.index-link.result.now.after in
    subst P (sym c.set_after.ensures) (after_within_with c.self.inside.links.items c.self.inside.lists.items c.args.cell c.index-link.result.now p.0 _ p.1)

pub index-ends-requires : goal.index-ends-requires
index-ends-requires c =
    let p = link_of c.self.inside.links.items c.self.inside.lists.items c.args.self.now c.args.cell c.index-link.result.now (record { linked = c.self.invariant; seen = c.self.view_is })
    c.requires.listed c.index-link.ensures in
    let lt : c.index-link.result.now.list < length c.self.inside.lists.items = slice_get_within _ _ p.ends p.at in
    grind (arith, common_steps)

pub with_other-requires-clause-falls : goal.with_other-requires-clause-falls
with_other-requires-clause-falls c =
    has_falls c.self.inside.links.items c.self.inside.lists.items c.args.cell c.index-link.result.now c.index-ends.result.now
    (stored_of _ _ c.args.self.now _ _ _ (record { linked = c.self.invariant; seen = c.self.view_is }) c.requires.listed c.index-link.ensures c.index-ends.ensures)

pub with_other-requires-clause-room : goal.with_other-requires-clause-room
with_other-requires-clause-room c =
    let few : c.index-ends.result.now.falls + 2 ≤ length c.self.inside.links.items =
    room_for_other c.self.inside.links.items c.self.inside.lists.items c.args.self.now c.args.cell c.args.other c.index-link.result.now c.index-ends.result.now
    (record { linked = c.self.invariant; seen = c.self.view_is })
    (stored_of _ _ c.args.self.now _ _ _ (record { linked = c.self.invariant; seen = c.self.view_is }) c.requires.listed c.index-link.ensures c.index-ends.ensures) c.requires.cell_in
    c.requires.free in
    grind (arith, common_steps)

pub index_mut-requires : goal.index_mut-requires
index_mut-requires c =
    let same = length-links c.self.inside.links.items _ _ _ _ _ _ c.set_after.ensures c.set_before.ensures in
    let inside : c.args.other < length c.self.inside.links.items = omega (arith, ap (λ (r : Lists). r.cells) c.self.view_is, c.requires.cell_in) in
    grind (arith, common_steps)

pub index_mut-requires-2 : goal.index_mut-requires-2
index_mut-requires-2 c =
    let p = link_of c.self.inside.links.items c.self.inside.lists.items c.args.self.now c.args.cell c.index-link.result.now (record { linked = c.self.invariant; seen = c.self.view_is })
    c.requires.listed c.index-link.ensures in
    let lt : c.index-link.result.now.list < length c.self.inside.lists.items = slice_get_within _ _ p.ends p.at in
    grind (arith, common_steps)

pub invariant_of-self : goal.invariant_of-self
invariant_of-self c =
    (replace_done c.self.inside.links.items c.self.inside.lists.items c.args.self.now c.args.cell c.args.other c.index-link.result.now c.index-ends.result.now _ _ _
    (record { linked = c.self.invariant; seen = c.self.view_is })
    (stored_of _ _ c.args.self.now _ _ _ (record { linked = c.self.invariant; seen = c.self.view_is }) c.requires.listed c.index-link.ensures c.index-ends.ensures)
    c.requires.cell_in c.requires.free c.set_after.ensures c.set_before.ensures c.with_other.ensures).linked

pub returns : goal.returns
returns c =
    (replace_done c.self.inside.links.items c.self.inside.lists.items c.args.self.now c.args.cell c.args.other c.index-link.result.now c.index-ends.result.now _ _ _
    (record { linked = c.self.invariant; seen = c.self.view_is })
    (stored_of _ _ c.args.self.now _ _ _ (record { linked = c.self.invariant; seen = c.self.view_is }) c.requires.listed c.index-link.ensures c.index-ends.ensures)
    c.requires.cell_in c.requires.free c.set_after.ensures c.set_before.ensures c.with_other.ensures).seen
