-- One region more.
use Rattle.std.proofs.Common.{◌∙◌}
use Rattle.g_arena.proofs.StepLemmas.{region_more}
use Rattle.g_arena.proofs.making.add_regions.Goals as goal

pub loop-part-preserved : goal.loop-part-preserved
loop-part-preserved c =
    let m = region_more c.args.node c.loop-part.yielded c.in-Some.part c.loop-part.regions.items c.push.new.self.items c.args.lists.now.items c.loop-part.lists.items c.add_region.new.lists.items c.in_ok-place.place _ c.len.result
    c.loop-part.invariant.args c.loop-part.invariant.lists c.loop-part.invariant.counted (c.len.ensures ∙ c.loop-part.regions.ok.0) c.in_ok-place.ensures c.in_ok-push.ensures.items c.in_ok-args.ensures.args c.in_ok-args.ensures.lists c.in_ok-args.ensures.short in
    record { args = m.0; lists = m.1; counted = m.2 }
