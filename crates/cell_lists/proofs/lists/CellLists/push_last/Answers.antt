-- A cell that comes to a list: the last cell is a cell, the list is short enough, and the lists are as they are to be.
use Rattle.std.proofs.Common.{◌+◌, ◌<◌, ◌≤◌, length, ap, sym, subst, arith}
use Rattle.std.proofs.lemmas.Grind.{common_steps}
use Rattle.cell_lists.specs.Lists.{Lists, IsFree}
use Rattle.cell_lists.proofs.StoreLemmas.{list_read, last_within, few_falls, room, push_done}
use Rattle.cell_lists.proofs.lists.CellLists.push_last.Goals as goal

pub set_after-requires : goal.set_after-requires
set_after-requires c =
    last_within c.self.inside.links.items c.self.inside.lists.items c.args.list c.index-ends.result.now c.self.invariant
    (list_read c.self.inside.links.items c.self.inside.lists.items c.args.self.now c.args.list c.index-ends.result.now c.self.view_is c.self.invariant c.requires.list_in c.index-ends.ensures)

pub with_last-requires-clause-room : goal.with_last-requires-clause-room
with_last-requires-clause-room c =
    let F : Lists → Type 0 = λ t. IsFree c.args.cell t in
    let inside : c.args.cell < length c.self.inside.links.items = omega (arith, ap (λ (t : Lists). t.cells) c.self.view_is, c.requires.cell_in) in
    let few : c.index-ends.result.now.len + 1 ≤ length c.self.inside.links.items =
    room c.self.inside.links.items c.self.inside.lists.items c.args.list c.index-ends.result.now c.args.cell c.self.invariant
    (list_read c.self.inside.links.items c.self.inside.lists.items c.args.self.now c.args.list c.index-ends.result.now c.self.view_is c.self.invariant c.requires.list_in c.index-ends.ensures)
    inside (subst F (sym c.self.view_is) c.requires.free) in
    grind (arith, common_steps)

pub with_last-requires-clause-few : goal.with_last-requires-clause-few
with_last-requires-clause-few c =
    few_falls c.self.inside.links.items c.self.inside.lists.items c.args.list c.index-ends.result.now c.self.invariant
    (list_read c.self.inside.links.items c.self.inside.lists.items c.args.self.now c.args.list c.index-ends.result.now c.self.view_is c.self.invariant c.requires.list_in c.index-ends.ensures)

pub invariant_of-self : goal.invariant_of-self
invariant_of-self c =
    (push_done c.self.inside.links.items c.self.inside.lists.items c.args.self.now c.args.list c.index-ends.result.now c.args.cell _ _
    (record { linked = c.self.invariant; seen = c.self.view_is })
    c.requires.list_in c.requires.cell_in c.requires.free c.index-ends.ensures c.set_after.ensures c.with_last.ensures).linked

pub returns : goal.returns
returns c =
    (push_done c.self.inside.links.items c.self.inside.lists.items c.args.self.now c.args.list c.index-ends.result.now c.args.cell _ _
    (record { linked = c.self.invariant; seen = c.self.view_is })
    c.requires.list_in c.requires.cell_in c.requires.free c.index-ends.ensures c.set_after.ensures c.with_last.ensures).seen
