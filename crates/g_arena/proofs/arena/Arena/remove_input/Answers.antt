-- The list of the inputs of the node changes.
use Rattle.std.proofs.Common.{subst, sym, ap, ◌∙◌, arith}
use Rattle.std.specs.List.{remove}
use Rattle.g_arena_def.specs.Edits.{at_with, input_removed}
use Rattle.g_arena_use.specs.Lists.{PlainUses, without}
use Rattle.g_arena_use.specs.Indexed.{AreIndexed}
use Rattle.g_arena_use.proofs.EditLemmas.{inputs_change}
use Rattle.g_arena_use.proofs.ReadLemmas.{inputs_long}
use Rattle.g_arena_use.proofs.ChangeLemmas.{indexed_kept, kept_same, edited_kept, remove_nil, input_there, no_node}
use Rattle.g_arena.specs.Seen.{arena_seen}
use Rattle.g_arena.proofs.ShownLemmas.{shown}
use Rattle.g_arena.proofs.arena.Arena.remove_input.Goals as goal

pub returns-in_default-clause-removed : goal.returns-in_default-clause-removed
returns-in_default-clause-removed g c = absurd (no_node c.self.inside.args c.self.inside.nodes c.self.inside.inputs c.self.inside.results c.args.self.now (shown c.self.inside c.args.self.now c.self.invariant c.self.view_is) c.args.node c.requires.0 c.in_default.ensures.slot c.requires.1)

pub remove-requires-clause-list_in : goal.remove-requires-clause-list_in
remove-requires-clause-list_in g c = omega (arith, inputs_long c.self.inside.args c.self.inside.nodes c.self.inside.inputs c.self.inside.results c.args.self.now (shown c.self.inside c.args.self.now c.self.invariant c.self.view_is), c.in-Some.ensures.within)

pub remove-requires-clause-there : goal.remove-requires-clause-there
remove-requires-clause-there g c = input_there c.self.inside.args c.self.inside.nodes c.self.inside.inputs c.self.inside.results c.args.self.now (shown c.self.inside c.args.self.now c.self.invariant c.self.view_is) c.args.node c.in-Some.at c.args.index c.requires.0 c.in-Some.ensures.slot c.requires.1 c.requires.2

pub invariant_of-self : goal.invariant_of-self
invariant_of-self g c =
    record {
      indexed =
          (let P : PlainUses → Type 0 = λ u. AreIndexed c.self.inside.args c.self.inside.nodes u c.self.inside.results in
          subst P (sym c.remove.ensures)
          (indexed_kept c.self.inside.args c.self.inside.nodes c.self.inside.inputs c.self.inside.results (at_with c.in-Some.at (without c.args.index) c.self.inside.inputs.lists) c.self.inside.results.lists c.self.invariant.indexed
          (edited_kept (λ os. remove os c.args.index) c.in-Some.at c.self.inside.inputs.lists (remove_nil c.args.index)) (kept_same c.self.inside.results.lists)));
      gone = c.self.invariant.gone;
    }

pub returns-clause-removed : goal.returns-clause-removed
returns-clause-removed g c =
    (λ i. arena_seen (record c.self.inside { inputs = c.remove.ensures i }))
    ∙ (λ i. record (arena_seen c.self.inside) {
      nodes = inputs_change (λ os. remove os c.args.index) c.self.inside.inputs.lists c.self.inside.results.lists c.self.inside.nodes c.args.node c.in-Some.at (inputs_long c.self.inside.args c.self.inside.nodes c.self.inside.inputs c.self.inside.results c.args.self.now (shown c.self.inside c.args.self.now c.self.invariant c.self.view_is)) (sym c.in-Some.ensures.slot) i;
    })
    ∙ ap (input_removed c.args.node c.args.index) c.self.view_is
