use Rattle.std.proofs.Common.{◌≡◌, slice_index_or, sym, subst, add-one, arith}
use Rattle.r_push.proofs.Listed.{region-now, carried-more, carried-all, count-at, lists-begin}
use Rattle.r_push.proofs.carry.carry_all.Goals as goal

pub carry-requires : goal.carry-requires
carry-requires c =
    count-at c.args.regions.now.items c.loop-i.i c.index_mut.result.now c.requires.count (omega arith)
    (region-now c.args.id c.args.loops c.loop-i.i c.args.regions.now.items c.loop-i.regions.items c.loop-i.lists.items c.index_mut.result.now c.loop-i.invariant c.index_mut.ensures.value)

pub loop-i-preserved : goal.loop-i-preserved
loop-i-preserved c =
    rw add-one
    (carried-more c.args.id c.args.loops c.loop-i.i c.args.regions.now.items c.loop-i.regions.items c.loop-i.lists.items c.index_mut.result.now c.replace.result c.carry.new.region
    c.replace.new.dest c.loop-i.invariant (omega arith) c.index_mut.ensures.value
    (subst (λ z. z ≡ slice_index_or c.loop-i.lists.items c.loop-i.i z) (sym c.replace.ensures.value) c.index_mut-in-loop-i.ensures.value) c.carry.ensures)

pub returns : goal.returns
returns c = carried-all c.args.id c.args.loops c.loop-i.i c.args.regions.now.items c.loop-i.regions.items c.loop-i.lists.items c.loop-i.invariant (omega arith)

pub loop-i-init : goal.loop-i-init
loop-i-init c = lists-begin c.args.id c.args.loops c.args.regions.now.items c.args.lists.now.items c.requires.lists
