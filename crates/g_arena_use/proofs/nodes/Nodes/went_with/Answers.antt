-- The slot of the node above tells it.
use Rattle.std.proofs.Common.{◌≡◌, ◌<◌, Some, length, ap, sym, ◌∙◌, arith}
use Rattle.g_arena_use.specs.Plain.{PlainSlot, slot_at, node_went}
use Rattle.g_arena_use.proofs.NodeLemmas.{slot_is, went_is, none_went}
use Rattle.g_arena_use.proofs.nodes.Nodes.went_with.Goals as goal

pub returns-in-None-get_index_of : goal.returns-in-None-get_index_of
returns-in-None-get_index_of c =
    let inside : c.args.at < length c.self.inside.slots.items = omega (arith, c.requires, ap length c.self.view_is) in
    let home : Some c.in-Some.node ≡ (slot_at c.self.inside.slots.items c.args.at).home.node =
    sym c.in-Some.is ∙ c.home_of.ensures ∙ ap (λ (y : PlainSlot). y.home.node) (slot_is c.self.inside.slots.items c.args.at c.index.result.now inside c.index.ensures) in
    none_went c.self.inside.slots.items c.self.inside.numbers.keys c.in-Some.node c.args.root c.self.invariant.keys c.in-None-get_index_of.ensures.index
    ∙ ap (node_went c.args.root c.self.inside.slots.items) home ∙ ap (λ ss. node_went c.args.root ss (slot_at ss c.args.at).home.node) c.self.view_is

pub returns-in-Some-get_index_of : goal.returns-in-Some-get_index_of
returns-in-Some-get_index_of c =
    let inside : c.args.at < length c.self.inside.slots.items = omega (arith, c.requires, ap length c.self.view_is) in
    let home : Some c.in-Some.node ≡ (slot_at c.self.inside.slots.items c.args.at).home.node =
    sym c.in-Some.is ∙ c.home_of.ensures ∙ ap (λ (y : PlainSlot). y.home.node) (slot_is c.self.inside.slots.items c.args.at c.index.result.now inside c.index.ensures) in
    c.went.ensures
    ∙ went_is c.self.inside.slots.items c.self.inside.numbers.keys c.in-Some.node c.in-Some-get_index_of.above c.args.root c.index-in-Some-get_index_of.result.now c.self.invariant.keys c.in-Some-get_index_of.ensures.index c.index-in-Some-get_index_of.ensures
    ∙ ap (node_went c.args.root c.self.inside.slots.items) home ∙ ap (λ ss. node_went c.args.root ss (slot_at ss c.args.at).home.node) c.self.view_is
