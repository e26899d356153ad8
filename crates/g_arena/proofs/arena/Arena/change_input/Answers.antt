-- The first of the lists of the inputs that has the use changes.
use Rattle.std.proofs.Common.{subst, sym, ap, ◌∙◌, cond}
use Rattle.g_arena_def.specs.Flat.{Flat}
use Rattle.g_arena_def.specs.Edits.{region_with, first_with, input_changed}
use Rattle.g_arena_use.specs.Lists.{PlainUses, use_in, use_moved}
use Rattle.g_arena_use.specs.Indexed.{AreIndexed}
use Rattle.g_arena_use.proofs.ResultLemmas.{results_edited}
use Rattle.g_arena_use.proofs.ReadLemmas.{has_kind}
use Rattle.g_arena_use.proofs.ChangeLemmas.{indexed_kept, kept_same, moved_kept, inputs_move, inputs_some}
use Rattle.g_arena.specs.Seen.{arena_seen}
use Rattle.g_arena.proofs.ShownLemmas.{shown}
use Rattle.g_arena.proofs.arena.Arena.change_input.Goals as goal

pub move_first-requires : goal.move_first-requires
move_first-requires c = c.self.invariant.indexed.named_inputs c.args.home c.args.to (has_kind c.self.inside.args c.self.inside.nodes c.self.inside.inputs c.self.inside.results c.args.self.now (shown c.self.inside c.args.self.now c.self.invariant c.self.view_is) c.args.home c.args.to c.requires.there)

pub invariant_of-self : goal.invariant_of-self
invariant_of-self c =
    record {
      indexed =
          (let P : PlainUses → Type 0 = λ u. AreIndexed c.self.inside.args c.self.inside.nodes u c.self.inside.results in
          subst P (sym c.move_first.ensures)
          (indexed_kept c.self.inside.args c.self.inside.nodes c.self.inside.inputs c.self.inside.results (use_moved (use_in c.args.home c.args.from) c.args.to c.self.inside.inputs.lists) c.self.inside.results.lists c.self.invariant.indexed (moved_kept (use_in c.args.home c.args.from) c.args.to c.self.inside.inputs.lists)
          (kept_same c.self.inside.results.lists)));
      gone = c.self.invariant.gone;
    }

pub returns : goal.returns
returns c =
    (λ i. arena_seen (record c.self.inside { inputs = c.move_first.ensures i }))
    ∙ (λ i. record (arena_seen c.self.inside) { nodes = inputs_move c.args.home c.args.from c.args.to c.self.inside.inputs.lists c.self.inside.results.lists c.self.inside.nodes c.self.invariant.indexed.inputs i })
    ∙ ap (λ (v : Flat). record v { nodes = input_changed c.args.home c.args.from c.args.to v.nodes }) c.self.view_is
    ∙ sym (ap (λ b. cond b (record c.args.self.now { nodes = input_changed c.args.home c.args.from c.args.to c.args.self.now.nodes }) (region_with c.args.home (results_edited (first_with c.args.from c.args.to)) c.args.self.now)) (inputs_some c.args.home c.args.from c.args.self.now.nodes c.requires.used))
