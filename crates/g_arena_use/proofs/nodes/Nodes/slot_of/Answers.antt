-- The slot of a number, if its node is there.
use Rattle.std.proofs.Common.{ap, sym, ◌∙◌, arith, length}
use Rattle.g_arena_use.specs.Plain.{live_slot}
use Rattle.g_arena_use.proofs.NodeLemmas.{not_found, found_live, found_gone, index_in}
use Rattle.g_arena_use.proofs.nodes.Nodes.slot_of.Goals as goal

pub returns-in_default-clause-slot : goal.returns-in_default-clause-slot
returns-in_default-clause-slot c = not_found c.self.inside.slots.items c.self.inside.numbers.keys c.args.node c.self.invariant.keys c.in_default.ensures.index ∙ ap (live_slot c.args.node) c.self.view_is

pub returns-then-is_live-clause-slot : goal.returns-then-is_live-clause-slot
returns-then-is_live-clause-slot c =
    found_live c.self.inside.slots.items c.self.inside.numbers.keys c.args.node c.in-Some.at c.index.result.now c.self.invariant.keys c.in-Some.ensures.index c.index.ensures (sym c.is_live.ensures ∙ c.if-is_live.true) ∙ ap (live_slot c.args.node) c.self.view_is

pub returns-then-is_live-clause-within : goal.returns-then-is_live-clause-within
returns-then-is_live-clause-within c =
    omega (arith, index_in c.self.inside.slots.items c.self.inside.numbers.keys c.args.node c.in-Some.at c.self.invariant.keys c.in-Some.ensures.index, ap length c.self.view_is)

pub returns-else-is_live-clause-slot : goal.returns-else-is_live-clause-slot
returns-else-is_live-clause-slot c =
    found_gone c.self.inside.slots.items c.self.inside.numbers.keys c.args.node c.in-Some.at c.index.result.now c.self.invariant.keys c.in-Some.ensures.index c.index.ensures (sym c.is_live.ensures ∙ c.if-is_live.false) ∙ ap (live_slot c.args.node) c.self.view_is
