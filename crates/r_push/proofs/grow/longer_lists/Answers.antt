use Rattle.std.proofs.Common.{arith}
use Rattle.r_push.proofs.Listed.{count-at, lists-done}
use Rattle.r_push.proofs.grow.longer_lists.Goals as goal

pub longer-requires : goal.longer-requires
longer-requires c = count-at c.args.regions.now c.loop-region.region-index c.region-item.result c.requires c.loop-region-test.true c.region-item.is

pub returns : goal.returns
returns c = lists-done c.args.loops c.loop-region.region-index c.loop-region.lists.items c.args.regions.now c.loop-region.invariant (omega arith)
