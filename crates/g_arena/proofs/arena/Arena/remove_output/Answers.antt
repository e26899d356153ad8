-- What names a later output follows, and the slot of the node changes.
use Rattle.std.proofs.Common.{◌≡◌, ◌<◌, List, length, set, refl, subst, sym, ap, ◌∙◌, arith}
use Rattle.g_graph.specs.declared.op.Origin.TheVariants.{Out}
use Rattle.g_arena_def.specs.declared.place.Place.{Place}
use Rattle.g_arena_def.specs.Edits.{output_less, output_removed}
use Rattle.g_arena_use.specs.UseCells.{IsNamed}
use Rattle.g_arena_use.specs.Lists.{PlainUses, use_in, all_renamed}
use Rattle.g_arena_use.specs.Plain.{PlainSlot, slot_at, output_gone}
use Rattle.g_arena_use.specs.Indexed.{AreIndexed}
use Rattle.g_arena_use.proofs.ChangeLemmas.{no_node}
use Rattle.g_arena_use.proofs.OutputLemmas.{kind_there, port_there, output_indexed, output_goes}
use Rattle.g_arena.specs.Seen.{arena_seen}
use Rattle.g_arena.proofs.ShownLemmas.{shown}
use Rattle.g_arena.specs.Gone.{AreGone}
use Rattle.g_arena.proofs.GoneLemmas.{gone_kept}
use Rattle.g_arena.proofs.arena.Arena.remove_output.Goals as goal

pub returns-in_default-clause-removed : goal.returns-in_default-clause-removed
returns-in_default-clause-removed g c = absurd (no_node c.self.inside.args c.self.inside.nodes c.self.inside.inputs c.self.inside.results c.args.self.now (shown c.self.inside c.args.self.now c.self.invariant c.self.view_is) c.args.node c.requires.0 c.in_default.ensures.slot c.requires.1)

pub follow_output-requires-clause-there : goal.follow_output-requires-clause-there
follow_output-requires-clause-there g c =
    let there = port_there c.self.inside.args c.self.inside.nodes c.self.inside.inputs c.self.inside.results c.args.self.now (shown c.self.inside c.args.self.now c.self.invariant c.self.view_is) c.args.node c.in-Some.at c.in-Some.ensures.slot c.args.port c.requires.0 c.requires.1 c.requires.2 in
    omega (arith, there, c.output_count-count.ensures, ap (λ (s : PlainSlot). length s.outputs) c.slot-slot.ensures.slot)

pub follow_output-requires-clause-named : goal.follow_output-requires-clause-named
follow_output-requires-clause-named g c = λ q lt.
    let few : q < length (slot_at c.self.inside.nodes c.in-Some.at).outputs = omega (arith, lt, c.output_count-count.ensures, ap (λ (s : PlainSlot). length s.outputs) c.slot-slot.ensures.slot) in
    let P : Place → Type 0 = λ p. IsNamed (use_in p (Out c.args.node q)) c.self.inside.inputs.names in
    subst P (sym (c.home_of-home.ensures ∙ ap (λ (s : PlainSlot). s.home) c.slot-slot.ensures.slot))
    (c.self.invariant.indexed.named_inputs (slot_at c.self.inside.nodes c.in-Some.at).home (Out c.args.node q) (kind_there c.self.inside.args c.self.inside.nodes c.self.inside.inputs c.self.inside.results c.args.self.now (shown c.self.inside c.args.self.now c.self.invariant c.self.view_is) c.args.node c.in-Some.at c.in-Some.ensures.slot q few))

pub follow_output-requires-2-clause-there : goal.follow_output-requires-2-clause-there
follow_output-requires-2-clause-there g c =
    let there = port_there c.self.inside.args c.self.inside.nodes c.self.inside.inputs c.self.inside.results c.args.self.now (shown c.self.inside c.args.self.now c.self.invariant c.self.view_is) c.args.node c.in-Some.at c.in-Some.ensures.slot c.args.port c.requires.0 c.requires.1 c.requires.2 in
    omega (arith, there, c.output_count-count.ensures, ap (λ (s : PlainSlot). length s.outputs) c.slot-slot.ensures.slot)

pub follow_output-requires-2-clause-named : goal.follow_output-requires-2-clause-named
follow_output-requires-2-clause-named g c = λ q lt.
    let few : q < length (slot_at c.self.inside.nodes c.in-Some.at).outputs = omega (arith, lt, c.output_count-count.ensures, ap (λ (s : PlainSlot). length s.outputs) c.slot-slot.ensures.slot) in
    let P : Place → Type 0 = λ p. IsNamed (use_in p (Out c.args.node q)) c.self.inside.results.names in
    subst P (sym (c.home_of-home.ensures ∙ ap (λ (s : PlainSlot). s.home) c.slot-slot.ensures.slot))
    (c.self.invariant.indexed.named_results (slot_at c.self.inside.nodes c.in-Some.at).home (Out c.args.node q) (kind_there c.self.inside.args c.self.inside.nodes c.self.inside.inputs c.self.inside.results c.args.self.now (shown c.self.inside c.args.self.now c.self.invariant c.self.view_is) c.args.node c.in-Some.at c.in-Some.ensures.slot q few))

pub remove_output-requires-clause-there : goal.remove_output-requires-clause-there
remove_output-requires-clause-there g c = port_there c.self.inside.args c.self.inside.nodes c.self.inside.inputs c.self.inside.results c.args.self.now (shown c.self.inside c.args.self.now c.self.invariant c.self.view_is) c.args.node c.in-Some.at c.in-Some.ensures.slot c.args.port c.requires.0 c.requires.1 c.requires.2

pub invariant_of-self : goal.invariant_of-self
invariant_of-self g c =
    record {
      indexed =
          (let home : c.home_of-home.result ≡ (slot_at c.self.inside.nodes c.in-Some.at).home = c.home_of-home.ensures ∙ ap (λ (s : PlainSlot). s.home) c.slot-slot.ensures.slot in
          let P : PlainUses → Type 0 = λ u. AreIndexed c.self.inside.args c.remove_output.new.self u c.follow_output-2.new.self in
          let Q : PlainUses → Type 0 = λ u. AreIndexed c.self.inside.args c.remove_output.new.self (record c.self.inside.inputs { lists = all_renamed c.home_of-home.result (output_less c.args.node c.args.port c.output_count-count.result) c.self.inside.inputs.lists }) u in
          let R : List PlainSlot → Type 0 = λ ss. AreIndexed c.self.inside.args ss
          (record c.self.inside.inputs { lists = all_renamed c.home_of-home.result (output_less c.args.node c.args.port c.output_count-count.result) c.self.inside.inputs.lists })
          (record c.self.inside.results { lists = all_renamed c.home_of-home.result (output_less c.args.node c.args.port c.output_count-count.result) c.self.inside.results.lists }) in
          let S : Place → Type 0 = λ p. AreIndexed c.self.inside.args (set c.self.inside.nodes c.in-Some.at (output_gone c.args.port (slot_at c.self.inside.nodes c.in-Some.at)))
          (record c.self.inside.inputs { lists = all_renamed p (output_less c.args.node c.args.port c.output_count-count.result) c.self.inside.inputs.lists })
          (record c.self.inside.results { lists = all_renamed p (output_less c.args.node c.args.port c.output_count-count.result) c.self.inside.results.lists }) in
          subst P (sym c.follow_output.ensures) (subst Q (sym c.follow_output-2.ensures) (subst R (sym c.remove_output.ensures)
          (subst S (sym home) (output_indexed c.self.inside.args c.self.inside.nodes c.self.inside.inputs c.self.inside.results c.args.self.now (shown c.self.inside c.args.self.now c.self.invariant c.self.view_is) c.args.node c.in-Some.at c.in-Some.ensures.slot c.args.port (output_less c.args.node c.args.port c.output_count-count.result))))));
      gone = (let P : List PlainSlot → Type 0 = λ ss. AreGone ss in subst P (sym c.remove_output.ensures) (gone_kept c.self.inside.nodes c.in-Some.at (output_gone c.args.port (slot_at c.self.inside.nodes c.in-Some.at)) refl c.self.invariant.gone));
    }

pub returns-clause-removed : goal.returns-clause-removed
returns-clause-removed g c =
    let home : c.home_of-home.result ≡ (slot_at c.self.inside.nodes c.in-Some.at).home = c.home_of-home.ensures ∙ ap (λ (s : PlainSlot). s.home) c.slot-slot.ensures.slot in
    let count : c.output_count-count.result ≡ length (slot_at c.self.inside.nodes c.in-Some.at).outputs = c.output_count-count.ensures ∙ ap (λ (s : PlainSlot). length s.outputs) c.slot-slot.ensures.slot in
    (λ i. arena_seen (record c.self.inside { nodes = c.remove_output.ensures i; inputs = c.follow_output.ensures i; results = c.follow_output-2.ensures i }))
    ∙ (λ i. arena_seen (record c.self.inside {
      nodes = set c.self.inside.nodes c.in-Some.at (output_gone c.args.port (slot_at c.self.inside.nodes c.in-Some.at));
      inputs = record c.self.inside.inputs { lists = all_renamed (home i) (output_less c.args.node c.args.port (count i)) c.self.inside.inputs.lists };
      results = record c.self.inside.results { lists = all_renamed (home i) (output_less c.args.node c.args.port (count i)) c.self.inside.results.lists };
    }))
    ∙ output_goes c.self.inside.args c.self.inside.nodes c.self.inside.inputs c.self.inside.results (arena_seen c.self.inside) (shown c.self.inside (arena_seen c.self.inside) c.self.invariant refl) c.args.node c.in-Some.at c.in-Some.ensures.slot c.args.port
    ∙ ap (output_removed c.args.node c.args.port) c.self.view_is
