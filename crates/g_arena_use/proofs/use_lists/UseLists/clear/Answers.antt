-- All origins go, and their cells hold none.
use Rattle.std.proofs.Common.{◌≡◌, ℕ, ◌+◌, ◌-◌, None, length, replicate, set, ap, arith, ◌∙◌, []}
use Rattle.g_arena_use.specs.UseCells.{with_written}
use Rattle.g_arena_use.specs.Sites.{PlainSite}
use Rattle.g_arena_use.proofs.StoredLemmas.{stored, read, read_same, cells_in, cells_owned, cleared_is, indexed, seen}
use Rattle.g_arena_use.proofs.use_lists.UseLists.clear.Goals as goal

pub overflow_add-first : goal.overflow_add-first
overflow_add-first c =
    let e = read c.self.inside.sites.items c.self.inside.owners.items c.self.inside.uses c.args.self.now (stored c.self.inside c.args.self.now c.self.invariant c.self.view_is) c.args.at c.index.result.now c.requires c.index.ensures in
    let same : c.index_mut.result.now ≡ c.index.result.now = read_same c.self.inside.sites.items c.self.inside.owners.items c.self.inside.uses c.args.self.now (stored c.self.inside c.args.self.now c.self.invariant c.self.view_is) c.args.at c.index_mut.result.now c.index.result.now
    c.requires c.index_mut.ensures.value c.index.ensures in
    omega (arith, cells_owned c.self.inside.sites.items c.self.inside.owners.items c.self.inside.uses c.args.self.now (stored c.self.inside c.args.self.now c.self.invariant c.self.view_is) c.args.at c.index.result.now e, c.take_origins-count.ensures.count, ap (λ (s : PlainSite). length s.origins) same, c.self.inside.owners.ok.0, c.first_cell-first.ensures)

pub clear_all-requires-clause-within : goal.clear_all-requires-clause-within
clear_all-requires-clause-within c =
    let e = read c.self.inside.sites.items c.self.inside.owners.items c.self.inside.uses c.args.self.now (stored c.self.inside c.args.self.now c.self.invariant c.self.view_is) c.args.at c.index.result.now c.requires c.index.ensures in
    let same : c.index_mut.result.now ≡ c.index.result.now = read_same c.self.inside.sites.items c.self.inside.owners.items c.self.inside.uses c.args.self.now (stored c.self.inside c.args.self.now c.self.invariant c.self.view_is) c.args.at c.index_mut.result.now c.index.result.now
    c.requires c.index_mut.ensures.value c.index.ensures in
    omega (arith, cells_in c.self.inside.sites.items c.self.inside.owners.items c.self.inside.uses c.args.self.now (stored c.self.inside c.args.self.now c.self.invariant c.self.view_is) c.args.at c.index.result.now e, c.take_origins-count.ensures.count, ap (λ (s : PlainSite). length s.origins) same, c.first_cell-first.ensures)

pub invariant_of-self : goal.invariant_of-self
invariant_of-self c =
    let e = read c.self.inside.sites.items c.self.inside.owners.items c.self.inside.uses c.args.self.now (stored c.self.inside c.args.self.now c.self.invariant c.self.view_is) c.args.at c.index.result.now c.requires c.index.ensures in
    let same : c.index_mut.result.now ≡ c.index.result.now = read_same c.self.inside.sites.items c.self.inside.owners.items c.self.inside.uses c.args.self.now (stored c.self.inside c.args.self.now c.self.invariant c.self.view_is) c.args.at c.index_mut.result.now c.index.result.now
    c.requires c.index_mut.ensures.value c.index.ensures in
    let site = c.take_origins-count.ensures.less ∙ ap (λ (s : PlainSite). record s { origins = [] }) same in
    let count : c.index.result.now.cell + c.take_origins-count.result - c.index.result.now.cell ≡ length c.index.result.now.origins =
    omega (arith, c.take_origins-count.ensures.count, ap (λ (s : PlainSite). length s.origins) same) in
    let cleared = c.clear_all.ensures ∙ ap (λ (n : ℕ). with_written c.self.inside.uses n (replicate (n + c.take_origins-count.result - n) None)) c.first_cell-first.ensures in
    let is = cleared_is c.self.inside.sites.items c.self.inside.owners.items c.self.inside.uses c.args.self.now (stored c.self.inside c.args.self.now c.self.invariant c.self.view_is) c.args.at c.index.result.now e _ count _ _
    (ap (λ (s : PlainSite). set c.self.inside.sites.items c.args.at s) site) cleared in
    indexed _ _ is

pub returns : goal.returns
returns c =
    let e = read c.self.inside.sites.items c.self.inside.owners.items c.self.inside.uses c.args.self.now (stored c.self.inside c.args.self.now c.self.invariant c.self.view_is) c.args.at c.index.result.now c.requires c.index.ensures in
    let same : c.index_mut.result.now ≡ c.index.result.now = read_same c.self.inside.sites.items c.self.inside.owners.items c.self.inside.uses c.args.self.now (stored c.self.inside c.args.self.now c.self.invariant c.self.view_is) c.args.at c.index_mut.result.now c.index.result.now
    c.requires c.index_mut.ensures.value c.index.ensures in
    let site = c.take_origins-count.ensures.less ∙ ap (λ (s : PlainSite). record s { origins = [] }) same in
    let count : c.index.result.now.cell + c.take_origins-count.result - c.index.result.now.cell ≡ length c.index.result.now.origins =
    omega (arith, c.take_origins-count.ensures.count, ap (λ (s : PlainSite). length s.origins) same) in
    let cleared = c.clear_all.ensures ∙ ap (λ (n : ℕ). with_written c.self.inside.uses n (replicate (n + c.take_origins-count.result - n) None)) c.first_cell-first.ensures in
    let is = cleared_is c.self.inside.sites.items c.self.inside.owners.items c.self.inside.uses c.args.self.now (stored c.self.inside c.args.self.now c.self.invariant c.self.view_is) c.args.at c.index.result.now e _ count _ _
    (ap (λ (s : PlainSite). set c.self.inside.sites.items c.args.at s) site) cleared in
    seen _ _ _ _ is
