-- What is told of the slot of the node.
use Rattle.std.proofs.Common.{Some, option_map, length, ap, sym, ◌∙◌, arith}
use Rattle.std.specs.Prelude.{is_none}
use Rattle.g_arena_use.specs.Plain.{PlainSlot, id_at}
use Rattle.g_arena_use.proofs.SeenLemmas.{slot_is}
use Rattle.g_arena_use.proofs.ReadLemmas.{inputs_long, view_some, view_none}
use Rattle.g_arena.proofs.ShownLemmas.{shown}
use Rattle.g_arena.proofs.arena.Arena.node.Goals as goal

pub returns-in_default-clause-view : goal.returns-in_default-clause-view
returns-in_default-clause-view g c = view_none c.self.inside.args c.self.inside.nodes c.self.inside.inputs c.self.inside.results c.args.self.now (shown c.self.inside c.args.self.now c.self.invariant c.self.view_is) c.args.node c.in_default.ensures.slot

pub before-earlier-requires-clause-live : goal.before-earlier-requires-clause-live
before-earlier-requires-clause-live g c = ap is_none (slot_is c.args.node c.self.inside.nodes c.in-Some.at (sym c.in-Some.ensures.slot)).live

pub after-later-requires-clause-live : goal.after-later-requires-clause-live
after-later-requires-clause-live g c = ap is_none (slot_is c.args.node c.self.inside.nodes c.in-Some.at (sym c.in-Some.ensures.slot)).live

pub list-requires : goal.list-requires
list-requires g c = omega (arith, inputs_long c.self.inside.args c.self.inside.nodes c.self.inside.inputs c.self.inside.results c.args.self.now (shown c.self.inside c.args.self.now c.self.invariant c.self.view_is), c.in-Some.ensures.within)

pub returns-clause-view : goal.returns-clause-view
returns-clause-view g c =
    view_some c.self.inside.args c.self.inside.nodes c.self.inside.inputs c.self.inside.results c.args.self.now (shown c.self.inside c.args.self.now c.self.invariant c.self.view_is) c.args.node c.in-Some.at c.in-Some.ensures.slot
    ∙ (λ i. Some (record {
      op = sym (c.view_of.ensures.op ∙ ap (λ (s : PlainSlot). s.op) c.slot.ensures.slot) i;
      inputs = sym (c.view_of.ensures.inputs ∙ c.list.ensures) i;
      outputs = sym (c.view_of.ensures.outputs ∙ ap (λ (s : PlainSlot). length s.outputs) c.slot.ensures.slot) i;
      regions = sym (c.view_of.ensures.regions ∙ ap (λ (s : PlainSlot). length s.regions) c.slot.ensures.slot) i;
      home = sym (c.view_of.ensures.home ∙ ap (λ (s : PlainSlot). s.home) c.slot.ensures.slot) i;
      before = sym (c.view_of.ensures.before ∙ c.number_of-before.ensures ∙ ap (option_map (id_at c.self.inside.nodes)) c.before-earlier.ensures.slot) i;
      after = sym (c.view_of.ensures.after ∙ c.number_of-after.ensures ∙ ap (option_map (id_at c.self.inside.nodes)) c.after-later.ensures.slot) i;
    }))
