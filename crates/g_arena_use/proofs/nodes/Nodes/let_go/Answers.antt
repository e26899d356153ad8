-- The slot leaves the list of those that are there.
use Rattle.std.proofs.Common.{◌<◌, length, ap, ◌∙◌, arith}
use Rattle.g_arena_use.specs.Plain.{is_live, slot_at}
use Rattle.g_arena_use.proofs.NodeLemmas.{numbered, are_numbered, listed, node_gone}
use Rattle.g_arena_use.proofs.nodes.Nodes.let_go.Goals as goal

pub remove-requires : goal.remove-requires
remove-requires c = (0, listed c.self.inside.slots.items c.self.inside.order c.args.self.now c.args.at c.self.invariant.order c.self.view_is c.requires.inside c.requires.live)

pub invariant_of-self : goal.invariant_of-self
invariant_of-self c =
    let inside : c.args.at < length c.self.inside.slots.items = omega (arith, c.requires.inside, ap length c.self.view_is) in
    are_numbered _ (node_gone c.self.inside.slots.items c.self.inside.numbers.keys c.self.inside.order c.remove.new.self c.args.at c.args.root c.index_mut.result.now c.let_go.new.self (numbered c.self.inside c.self.invariant) inside
    c.index_mut.ensures.value (ap (λ ss. is_live (slot_at ss c.args.at)) c.self.view_is ∙ c.requires.live) c.let_go.ensures c.remove.ensures)
