-- All slots are in the list, in order.
use Rattle.std.proofs.Common.{◌∙◌}
use Rattle.g_arena_use.proofs.NodeLemmas.{are_numbered, new_numbered}
use Rattle.g_arena_use.proofs.nodes.Nodes.new.Goals as goal

pub invariant_of-result : goal.invariant_of-result
invariant_of-result c =
    are_numbered _ (new_numbered c.args.slots.items c.args.numbers.keys c.in_ok-order.order c.len.result c.requires.keys c.requires.once c.requires.live c.requires.short (c.len.ensures ∙ c.args.slots.ok.0) c.in_ok-order.ensures)
