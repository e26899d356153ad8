use Rattle.std.proofs.Common.{◌∙◌, sym, ap}
use Rattle.g_graph.specs.declared.op.Origin.TheVariants.{Arg}
use Rattle.g_arena_def.specs.Flat.{place_in}
use Rattle.g_arena_def.specs.Reads.{uses_in}
use Rattle.r_dne.proofs.EntryJudged.{one_uses, use_there}
use Rattle.r_dne.proofs.gamma_sweep.is_entry_used.Goals as goal

pub returns-then-uses-gt0-clause-used : goal.returns-then-uses-gt0-clause-used
returns-then-uses-gt0-clause-used g c =
    let count = c.uses-uses.ensures.count ∙ ap (λ p. uses_in p (Arg c.args.index) c.args.arena.now) c.place_in.ensures in
    sym (one_uses c.args.arena.now c.args.shape.node c.args.shape.regions c.loop-region.region c.args.index c.loop-region-test.true
    (use_there (place_in c.args.shape.node c.loop-region.region) (Arg c.args.index) c.args.arena.now c.uses-uses.result.count c.if-uses-gt0.true count))
