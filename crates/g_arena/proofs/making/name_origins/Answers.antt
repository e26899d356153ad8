-- One use more is named.
use Rattle.std.proofs.Common.{arith}
use Rattle.g_arena_use.proofs.ReadLemmas.{get_within}
use Rattle.g_arena.proofs.StepLemmas.{name_kept, kept_more, origin_more, origins_named}
use Rattle.g_arena.proofs.making.name_origins.Goals as goal

pub loop-k-preserved : goal.loop-k-preserved
loop-k-preserved c = record {
  kept = kept_more c.args.names.now c.loop-k.names c.add.new.self c.loop-k.invariant.kept (name_kept _ c.loop-k.names c.add.new.self c.in_ok-add.ensures);
  named = origin_more c.loop-k.names c.add.new.self c.args.home c.args.origins.now c.loop-k.k _ c.loop-k.invariant.named c.in_ok-add.ensures;
}

pub returns-clause-named : goal.returns-clause-named
returns-clause-named c = origins_named c.loop-k.names c.args.home c.args.origins.now (λ j o e. c.loop-k.invariant.named j (let w = get_within c.args.origins.now j o e in omega (arith, w)) o e)
