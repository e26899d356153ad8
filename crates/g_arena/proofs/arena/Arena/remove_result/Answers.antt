-- The list of the results of the region changes.
use Rattle.std.proofs.Common.{refl, subst, sym, ap, ◌∙◌}
use Rattle.std.specs.List.{remove}
use Rattle.g_arena_def.specs.Edits.{at_with, result_removed}
use Rattle.g_arena_use.specs.Lists.{PlainUses, without}
use Rattle.g_arena_use.specs.Indexed.{AreIndexed}
use Rattle.g_arena_use.proofs.ReadLemmas.{list_in, no_result}
use Rattle.g_arena_use.proofs.ChangeLemmas.{indexed_kept, kept_same, edited_kept, remove_nil, results_change}
use Rattle.g_arena.specs.Seen.{arena_seen}
use Rattle.g_arena.proofs.ShownLemmas.{shown}
use Rattle.g_arena.proofs.arena.Arena.remove_result.Goals as goal

pub returns-in_default-clause-removed : goal.returns-in_default-clause-removed
returns-in_default-clause-removed g c = absurd (no_result c.self.inside.args c.self.inside.nodes c.self.inside.inputs c.self.inside.results c.args.self.now (shown c.self.inside c.args.self.now c.self.invariant c.self.view_is) c.args.home c.args.index c.in_default.ensures c.requires)

pub remove-requires-clause-list_in : goal.remove-requires-clause-list_in
remove-requires-clause-list_in g c = (list_in c.self.inside.args c.self.inside.nodes c.self.inside.inputs c.self.inside.results c.args.self.now (shown c.self.inside c.args.self.now c.self.invariant c.self.view_is) c.args.home c.args.index c.in-Some.list c.in-Some.ensures c.requires).0

pub remove-requires-clause-there : goal.remove-requires-clause-there
remove-requires-clause-there g c = (list_in c.self.inside.args c.self.inside.nodes c.self.inside.inputs c.self.inside.results c.args.self.now (shown c.self.inside c.args.self.now c.self.invariant c.self.view_is) c.args.home c.args.index c.in-Some.list c.in-Some.ensures c.requires).1

pub invariant_of-self : goal.invariant_of-self
invariant_of-self g c =
    record {
      indexed =
          (let P : PlainUses → Type 0 = λ u. AreIndexed c.self.inside.args c.self.inside.nodes c.self.inside.inputs u in
          subst P (sym c.remove.ensures)
          (indexed_kept c.self.inside.args c.self.inside.nodes c.self.inside.inputs c.self.inside.results c.self.inside.inputs.lists (at_with c.in-Some.list (without c.args.index) c.self.inside.results.lists) c.self.invariant.indexed (kept_same c.self.inside.inputs.lists)
          (edited_kept (λ os. remove os c.args.index) c.in-Some.list c.self.inside.results.lists (remove_nil c.args.index))));
      gone = c.self.invariant.gone;
    }

pub returns-clause-removed : goal.returns-clause-removed
returns-clause-removed g c =
    (λ i. arena_seen (record c.self.inside { results = c.remove.ensures i }))
    ∙ results_change c.self.inside.args c.self.inside.nodes c.self.inside.inputs c.self.inside.results (arena_seen c.self.inside) (shown c.self.inside (arena_seen c.self.inside) c.self.invariant refl) (λ os. remove os c.args.index) c.args.home c.in-Some.list c.in-Some.ensures
    ∙ ap (result_removed c.args.home c.args.index) c.self.view_is
