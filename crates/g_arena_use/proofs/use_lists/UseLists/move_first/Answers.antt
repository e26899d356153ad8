-- The cell of the first use tells its list and its index there.
use Rattle.std.proofs.Common.{◌≡◌, ℕ, ◌-◌, length, set, ap, sym, ◌∙◌, arith}
use Rattle.g_arena_use.specs.Sites.{PlainSite}
use Rattle.g_arena_use.proofs.StoredLemmas.{stored, found_in, owner_in, site_in, same_site, cell_there, not_found, moved_is, indexed, seen}
use Rattle.g_arena_use.proofs.use_lists.UseLists.move_first.Goals as goal

pub returns-in_default : goal.returns-in_default
returns-in_default c =
    not_found c.self.inside.sites.items c.self.inside.owners.items c.self.inside.uses c.args.self.now (stored c.self.inside c.args.self.now c.self.invariant c.self.view_is) c.args.used c.args.to c.in_default.ensures

pub index-at-requires : goal.index-at-requires
index-at-requires c =
    omega (
      arith,
      found_in c.self.inside.sites.items c.self.inside.owners.items c.self.inside.uses c.args.self.now (stored c.self.inside c.args.self.now c.self.invariant c.self.view_is) c.args.used c.args.to c.in-Some.cell c.in-Some.ensures,
      c.self.inside.owners.ok.0,
    )

pub index-requires : goal.index-requires
index-requires c =
    omega (
      arith,
      owner_in c.self.inside.sites.items c.self.inside.owners.items c.self.inside.uses c.args.self.now (stored c.self.inside c.args.self.now c.self.invariant c.self.view_is) c.args.used c.args.to c.in-Some.cell c.index-at.result.now
          c.in-Some.ensures c.index-at.ensures,
      c.self.inside.sites.ok.0,
    )

pub overflow_sub-index : goal.overflow_sub-index
overflow_sub-index c =
    let at = site_in c.self.inside.sites.items c.self.inside.owners.items c.self.inside.uses c.args.self.now (stored c.self.inside c.args.self.now c.self.invariant c.self.view_is) c.args.used c.args.to c.in-Some.cell c.index-at.result.now c.index.result.now
    c.in-Some.ensures c.index-at.ensures c.index.ensures in
    omega (arith, at.0, c.first_cell-first.ensures)

pub index_mut-requires : goal.index_mut-requires
index_mut-requires c =
    omega (
      arith,
      owner_in c.self.inside.sites.items c.self.inside.owners.items c.self.inside.uses c.args.self.now (stored c.self.inside c.args.self.now c.self.invariant c.self.view_is) c.args.used c.args.to c.in-Some.cell c.index-at.result.now
          c.in-Some.ensures c.index-at.ensures,
      c.self.inside.sites.ok.0,
    )

pub set_origin-requires : goal.set_origin-requires
set_origin-requires c =
    let at = site_in c.self.inside.sites.items c.self.inside.owners.items c.self.inside.uses c.args.self.now (stored c.self.inside c.args.self.now c.self.invariant c.self.view_is) c.args.used c.args.to c.in-Some.cell c.index-at.result.now c.index.result.now
    c.in-Some.ensures c.index-at.ensures c.index.ensures in
    let same : c.index_mut.result.now ≡ c.index.result.now = same_site c.self.inside.sites.items c.self.inside.owners.items c.self.inside.uses c.args.self.now (stored c.self.inside c.args.self.now c.self.invariant c.self.view_is) c.args.used c.args.to c.in-Some.cell c.index-at.result.now c.index_mut.result.now c.index.result.now
    c.in-Some.ensures c.index-at.ensures c.index_mut.ensures.value c.index.ensures in
    omega (arith, at.1, c.first_cell-first.ensures, ap (λ (s : PlainSite). length s.origins) same)

pub set-requires-clause-cell_in : goal.set-requires-clause-cell_in
set-requires-clause-cell_in c =
    cell_there c.self.inside.sites.items c.self.inside.owners.items c.self.inside.uses c.args.self.now (stored c.self.inside c.args.self.now c.self.invariant c.self.view_is) c.args.used c.args.to c.in-Some.cell c.in-Some.ensures

pub invariant_of-self : goal.invariant_of-self
invariant_of-self c =
    let same : c.index_mut.result.now ≡ c.index.result.now = same_site c.self.inside.sites.items c.self.inside.owners.items c.self.inside.uses c.args.self.now (stored c.self.inside c.args.self.now c.self.invariant c.self.view_is) c.args.used c.args.to c.in-Some.cell c.index-at.result.now c.index_mut.result.now c.index.result.now
    c.in-Some.ensures c.index-at.ensures c.index_mut.ensures.value c.index.ensures in
    let site = c.set_origin.ensures ∙ ap (λ (n : ℕ). record c.index_mut.result.now { origins = set c.index_mut.result.now.origins (c.in-Some.cell - n) c.args.to }) (c.first_cell-first.ensures ∙ ap (λ (s : PlainSite). s.cell) (sym same)) in
    let is = moved_is c.self.inside.sites.items c.self.inside.owners.items c.self.inside.uses c.args.self.now (stored c.self.inside c.args.self.now c.self.invariant c.self.view_is) c.args.used c.args.to c.in-Some.cell c.index-at.result.now c.index_mut.result.now
    c.in-Some.ensures c.index-at.ensures c.index_mut.ensures.value _ _ (ap (λ (s : PlainSite). set c.self.inside.sites.items c.index-at.result.now s) site) c.set.ensures in
    indexed _ _ is

pub returns : goal.returns
returns c =
    let same : c.index_mut.result.now ≡ c.index.result.now = same_site c.self.inside.sites.items c.self.inside.owners.items c.self.inside.uses c.args.self.now (stored c.self.inside c.args.self.now c.self.invariant c.self.view_is) c.args.used c.args.to c.in-Some.cell c.index-at.result.now c.index_mut.result.now c.index.result.now
    c.in-Some.ensures c.index-at.ensures c.index_mut.ensures.value c.index.ensures in
    let site = c.set_origin.ensures ∙ ap (λ (n : ℕ). record c.index_mut.result.now { origins = set c.index_mut.result.now.origins (c.in-Some.cell - n) c.args.to }) (c.first_cell-first.ensures ∙ ap (λ (s : PlainSite). s.cell) (sym same)) in
    let is = moved_is c.self.inside.sites.items c.self.inside.owners.items c.self.inside.uses c.args.self.now (stored c.self.inside c.args.self.now c.self.invariant c.self.view_is) c.args.used c.args.to c.in-Some.cell c.index-at.result.now c.index_mut.result.now
    c.in-Some.ensures c.index-at.ensures c.index_mut.ensures.value _ _ (ap (λ (s : PlainSite). set c.self.inside.sites.items c.index-at.result.now s) site) c.set.ensures in
    seen _ _ _ _ is
