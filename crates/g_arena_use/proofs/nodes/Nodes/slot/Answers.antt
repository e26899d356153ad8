-- 32 bits count what a slot has.
use Rattle.std.proofs.Common.{◌<◌, length, ap, arith}
use Rattle.g_arena_use.proofs.NodeLemmas.{short_at}
use Rattle.g_arena_use.proofs.nodes.Nodes.slot.Goals as goal

pub returns-clause-short : goal.returns-clause-short
returns-clause-short c =
    let inside : c.args.at < length c.self.inside.slots.items = omega (arith, c.requires, ap length c.self.view_is) in
    short_at c.self.inside.slots.items c.args.at c.index.result.now c.self.invariant.short inside c.index.ensures
