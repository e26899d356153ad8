-- An origin goes, and the cells behind its own move on.
use Rattle.std.proofs.Common.{◌≡◌, ℕ, ◌+◌, ◌-◌, length, set, ap, arith, ◌∙◌}
use Rattle.std.specs.List.{remove}
use Rattle.g_arena_use.specs.UseCells.{with_closed}
use Rattle.g_arena_use.specs.Sites.{PlainSite}
use Rattle.g_arena_use.proofs.StoredLemmas.{stored, read, read_same, origin_in, cells_in, cells_owned, removed_is, indexed, seen}
use Rattle.g_arena_use.proofs.use_lists.UseLists.remove.Goals as goal

pub overflow_add-first : goal.overflow_add-first
overflow_add-first c =
    let e = read c.self.inside.sites.items c.self.inside.owners.items c.self.inside.uses c.args.self.now (stored c.self.inside c.args.self.now c.self.invariant c.self.view_is) c.args.at c.index.result.now c.requires.list_in c.index.ensures in
    let inside = origin_in c.self.inside.sites.items c.self.inside.owners.items c.self.inside.uses c.args.self.now (stored c.self.inside c.args.self.now c.self.invariant c.self.view_is) c.args.at c.args.index c.index.result.now
    c.requires.list_in c.index.ensures c.requires.there in
    omega (arith, cells_owned c.self.inside.sites.items c.self.inside.owners.items c.self.inside.uses c.args.self.now (stored c.self.inside c.args.self.now c.self.invariant c.self.view_is) c.args.at c.index.result.now e, inside, c.self.inside.owners.ok.0, c.first_cell-first.ensures)

pub overflow_add-first-2 : goal.overflow_add-first-2
overflow_add-first-2 c =
    let e = read c.self.inside.sites.items c.self.inside.owners.items c.self.inside.uses c.args.self.now (stored c.self.inside c.args.self.now c.self.invariant c.self.view_is) c.args.at c.index.result.now c.requires.list_in c.index.ensures in
    let same : c.index_mut.result.now ≡ c.index.result.now = read_same c.self.inside.sites.items c.self.inside.owners.items c.self.inside.uses c.args.self.now (stored c.self.inside c.args.self.now c.self.invariant c.self.view_is) c.args.at c.index_mut.result.now c.index.result.now
    c.requires.list_in c.index_mut.ensures.value c.index.ensures in
    omega (arith, cells_owned c.self.inside.sites.items c.self.inside.owners.items c.self.inside.uses c.args.self.now (stored c.self.inside c.args.self.now c.self.invariant c.self.view_is) c.args.at c.index.result.now e, c.take_origin-count.ensures.count, ap (λ (s : PlainSite). length s.origins) same, c.self.inside.owners.ok.0, c.first_cell-first.ensures)

pub close-requires-clause-within : goal.close-requires-clause-within
close-requires-clause-within c =
    let e = read c.self.inside.sites.items c.self.inside.owners.items c.self.inside.uses c.args.self.now (stored c.self.inside c.args.self.now c.self.invariant c.self.view_is) c.args.at c.index.result.now c.requires.list_in c.index.ensures in
    let same : c.index_mut.result.now ≡ c.index.result.now = read_same c.self.inside.sites.items c.self.inside.owners.items c.self.inside.uses c.args.self.now (stored c.self.inside c.args.self.now c.self.invariant c.self.view_is) c.args.at c.index_mut.result.now c.index.result.now
    c.requires.list_in c.index_mut.ensures.value c.index.ensures in
    omega (arith, cells_in c.self.inside.sites.items c.self.inside.owners.items c.self.inside.uses c.args.self.now (stored c.self.inside c.args.self.now c.self.invariant c.self.view_is) c.args.at c.index.result.now e, c.take_origin-count.ensures.count, ap (λ (s : PlainSite). length s.origins) same, c.first_cell-first.ensures)

pub invariant_of-self : goal.invariant_of-self
invariant_of-self c =
    let e = read c.self.inside.sites.items c.self.inside.owners.items c.self.inside.uses c.args.self.now (stored c.self.inside c.args.self.now c.self.invariant c.self.view_is) c.args.at c.index.result.now c.requires.list_in c.index.ensures in
    let inside = origin_in c.self.inside.sites.items c.self.inside.owners.items c.self.inside.uses c.args.self.now (stored c.self.inside c.args.self.now c.self.invariant c.self.view_is) c.args.at c.args.index c.index.result.now
    c.requires.list_in c.index.ensures c.requires.there in
    let same : c.index_mut.result.now ≡ c.index.result.now = read_same c.self.inside.sites.items c.self.inside.owners.items c.self.inside.uses c.args.self.now (stored c.self.inside c.args.self.now c.self.invariant c.self.view_is) c.args.at c.index_mut.result.now c.index.result.now
    c.requires.list_in c.index_mut.ensures.value c.index.ensures in
    let site = c.take_origin-count.ensures.less ∙ ap (λ (s : PlainSite). record s { origins = remove s.origins c.args.index }) same in
    let count : c.index.result.now.cell + c.take_origin-count.result - (c.index.result.now.cell + c.args.index + 1) ≡ length c.index.result.now.origins - (c.args.index + 1) =
    omega (arith, c.take_origin-count.ensures.count, ap (λ (s : PlainSite). length s.origins) same) in
    let closed = c.close.ensures ∙ ap (λ (n : ℕ). with_closed c.self.inside.uses (n + c.args.index) (n + c.take_origin-count.result - (n + c.args.index + 1))) c.first_cell-first.ensures in
    let is = removed_is c.self.inside.sites.items c.self.inside.owners.items c.self.inside.uses c.args.self.now (stored c.self.inside c.args.self.now c.self.invariant c.self.view_is) c.args.at c.args.index c.index.result.now e inside _ count _ _
    (ap (λ (s : PlainSite). set c.self.inside.sites.items c.args.at s) site) closed in
    indexed _ _ is

pub returns : goal.returns
returns c =
    let e = read c.self.inside.sites.items c.self.inside.owners.items c.self.inside.uses c.args.self.now (stored c.self.inside c.args.self.now c.self.invariant c.self.view_is) c.args.at c.index.result.now c.requires.list_in c.index.ensures in
    let inside = origin_in c.self.inside.sites.items c.self.inside.owners.items c.self.inside.uses c.args.self.now (stored c.self.inside c.args.self.now c.self.invariant c.self.view_is) c.args.at c.args.index c.index.result.now
    c.requires.list_in c.index.ensures c.requires.there in
    let same : c.index_mut.result.now ≡ c.index.result.now = read_same c.self.inside.sites.items c.self.inside.owners.items c.self.inside.uses c.args.self.now (stored c.self.inside c.args.self.now c.self.invariant c.self.view_is) c.args.at c.index_mut.result.now c.index.result.now
    c.requires.list_in c.index_mut.ensures.value c.index.ensures in
    let site = c.take_origin-count.ensures.less ∙ ap (λ (s : PlainSite). record s { origins = remove s.origins c.args.index }) same in
    let count : c.index.result.now.cell + c.take_origin-count.result - (c.index.result.now.cell + c.args.index + 1) ≡ length c.index.result.now.origins - (c.args.index + 1) =
    omega (arith, c.take_origin-count.ensures.count, ap (λ (s : PlainSite). length s.origins) same) in
    let closed = c.close.ensures ∙ ap (λ (n : ℕ). with_closed c.self.inside.uses (n + c.args.index) (n + c.take_origin-count.result - (n + c.args.index + 1))) c.first_cell-first.ensures in
    let is = removed_is c.self.inside.sites.items c.self.inside.owners.items c.self.inside.uses c.args.self.now (stored c.self.inside c.args.self.now c.self.invariant c.self.view_is) c.args.at c.args.index c.index.result.now e inside _ count _ _
    (ap (λ (s : PlainSite). set c.self.inside.sites.items c.args.at s) site) closed in
    seen _ _ _ _ is
