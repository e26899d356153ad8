-- One list more is stored, and all are in the index.
use Rattle.std.proofs.Common.{List, length, map, map-id, ap, sym, subst, ◌∙◌, rules}
use Rattle.std.proofs.lemmas.Iterator.Consumers.{YieldsList-end}
use Rattle.std.proofs.lemmas.Iterator.Adapters.{YieldsList-from_vec}
use Rattle.g_arena_use.specs.Lists.{PlainList, AllNamed, made_of}
use Rattle.g_arena_use.specs.Sites.{PlainSite, list_seen, cells_of}
use Rattle.g_arena_use.proofs.StoredLemmas.{indexed, seen}
use Rattle.g_arena_use.proofs.MadeLemmas.{made_more, made_cells, made_stored}
use Rattle.g_arena_use.proofs.use_lists.UseLists.new.Goals as goal

pub loop-list-preserved : goal.loop-list-preserved
loop-list-preserved c =
    made_more c.loop-list.sites.items c.add_site.new.sites.items c.loop-list.owners.items c.add_site.new.owners.items c.loop-list.yielded c.in-Some.list c.loop-list.invariant c.in_ok-add_site.ensures.sites c.in_ok-add_site.ensures.owners

pub index_of-requires-clause-cells : goal.index_of-requires-clause-cells
index_of-requires-clause-cells c =
    c.len.ensures ∙ c.loop-list.owners.ok.0 ∙ made_cells c.loop-list.sites.items c.loop-list.owners.items c.loop-list.yielded c.loop-list.invariant
    ∙ ap (λ (ss : List PlainSite). length (cells_of ss)) (sym c.deref.ensures.value)

pub index_of-requires-clause-named : goal.index_of-requires-clause-named
index_of-requires-clause-named c =
    let end = YieldsList-end (YieldsList-from_vec {s = c.into_iter-list-iterator.result} c.args.lists.items (search rules) (search rules))
    c.loop-list.yielded c.loop-list.list-iterator c.loop-list.yielded_by c.next.result c.next.new.self c.in-None.is c.next.ensures.steps in
    let P : List PlainList → Type 0 = λ ls. AllNamed c.args.names ls in
    subst P (sym end.0 ∙ map-id c.loop-list.yielded ∙ sym c.loop-list.invariant.seen ∙ ap (map list_seen) (sym c.deref.ensures.value)) c.requires

pub invariant_of-result : goal.invariant_of-result
invariant_of-result c =
    indexed _ _ (made_stored c.args.names c.loop-list.sites.items c.loop-list.owners.items c.loop-list.yielded c.in_ok-uses.uses c.loop-list.invariant
    (c.in_ok-uses.ensures ∙ ap (λ (ss : List PlainSite). record { names = c.args.names; cells = cells_of ss }) c.deref.ensures.value))

pub returns : goal.returns
returns c =
    let end = YieldsList-end (YieldsList-from_vec {s = c.into_iter-list-iterator.result} c.args.lists.items (search rules) (search rules))
    c.loop-list.yielded c.loop-list.list-iterator c.loop-list.yielded_by c.next.result c.next.new.self c.in-None.is c.next.ensures.steps in
    seen c.loop-list.sites.items c.loop-list.owners.items c.in_ok-uses.uses (made_of c.args.names c.loop-list.yielded)
    (made_stored c.args.names c.loop-list.sites.items c.loop-list.owners.items c.loop-list.yielded c.in_ok-uses.uses c.loop-list.invariant
    (c.in_ok-uses.ensures ∙ ap (λ (ss : List PlainSite). record { names = c.args.names; cells = cells_of ss }) c.deref.ensures.value))
    ∙ ap (made_of c.args.names) (sym (map-id c.loop-list.yielded) ∙ end.0)
