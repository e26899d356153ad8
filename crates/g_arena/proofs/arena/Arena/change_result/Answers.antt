-- The list of the results of the region changes.
use Rattle.std.proofs.Common.{◌<◌, refl, subst, sym, ap, ◌∙◌, cond, arith}
use Rattle.g_arena_def.specs.Flat.{Flat}
use Rattle.g_arena_def.specs.Reads.{result_uses, region_at}
use Rattle.g_arena_def.specs.Edits.{region_with, first_with, input_changed}
use Rattle.g_arena_use.specs.Lists.{PlainUses, use_in, use_moved}
use Rattle.g_arena_use.specs.Indexed.{AreIndexed}
use Rattle.g_arena_use.proofs.ResultLemmas.{results_edited}
use Rattle.g_arena_use.proofs.ReadLemmas.{has_kind}
use Rattle.g_arena_use.proofs.ChangeLemmas.{indexed_kept, kept_same, moved_kept, results_move, inputs_none}
use Rattle.g_arena.specs.Seen.{arena_seen}
use Rattle.g_arena.proofs.ShownLemmas.{shown}
use Rattle.g_arena.proofs.arena.Arena.change_result.Goals as goal

pub move_first-requires : goal.move_first-requires
move_first-requires c = c.self.invariant.indexed.named_results c.args.home c.args.to (has_kind c.self.inside.args c.self.inside.nodes c.self.inside.inputs c.self.inside.results c.args.self.now (shown c.self.inside c.args.self.now c.self.invariant c.self.view_is) c.args.home c.args.to c.requires.there)

pub invariant_of-self : goal.invariant_of-self
invariant_of-self c =
    record {
      indexed =
          (let P : PlainUses → Type 0 = λ u. AreIndexed c.self.inside.args c.self.inside.nodes c.self.inside.inputs u in
          subst P (sym c.move_first.ensures)
          (indexed_kept c.self.inside.args c.self.inside.nodes c.self.inside.inputs c.self.inside.results c.self.inside.inputs.lists (use_moved (use_in c.args.home c.args.from) c.args.to c.self.inside.results.lists) c.self.invariant.indexed (kept_same c.self.inside.inputs.lists)
          (moved_kept (use_in c.args.home c.args.from) c.args.to c.self.inside.results.lists)));
      gone = c.self.invariant.gone;
    }

pub returns : goal.returns
returns c =
    let seen : 0 < result_uses c.args.from (region_at c.args.home (arena_seen c.self.inside)) =
    omega (arith, c.requires.none, c.requires.used, ap (λ (v : Flat). result_uses c.args.from (region_at c.args.home v)) c.self.view_is) in
    (λ i. arena_seen (record c.self.inside { results = c.move_first.ensures i }))
    ∙ results_move c.self.inside.args c.self.inside.nodes c.self.inside.inputs c.self.inside.results (arena_seen c.self.inside) (shown c.self.inside (arena_seen c.self.inside) c.self.invariant refl) c.args.home c.args.from c.args.to seen
    ∙ ap (region_with c.args.home (results_edited (first_with c.args.from c.args.to))) c.self.view_is
    ∙ sym (ap (λ b. cond b (record c.args.self.now { nodes = input_changed c.args.home c.args.from c.args.to c.args.self.now.nodes }) (region_with c.args.home (results_edited (first_with c.args.from c.args.to)) c.args.self.now)) (inputs_none c.args.home c.args.from c.args.self.now.nodes c.requires.none))
