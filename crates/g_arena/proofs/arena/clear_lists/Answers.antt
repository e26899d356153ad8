-- A list goes on being there.
use Rattle.std.proofs.Common.{length, ap, arith}
use Rattle.g_arena_use.specs.Lists.{PlainUses}
use Rattle.g_arena.proofs.GoneLemmas.{cleared_long}
use Rattle.g_arena.proofs.arena.clear_lists.Goals as goal

pub clear-requires : goal.clear-requires
clear-requires c =
    let few = c.requires.there c.loop-k.k (omega arith) in
    omega (arith, few, ap (λ (u : PlainUses). length u.lists) c.loop-k.invariant, cleared_long c.args.first c.loop-k.k c.args.lists.now.lists)
