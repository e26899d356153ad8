-- One region after the other.
use Rattle.std.proofs.Common.{◌<◌, ◌≤◌, sym, ap, ◌∙◌, length, arith}
use Rattle.g_graph.specs.Plain.{regions_of}
use Rattle.g_graph.proofs.lemmas.Mapped.{mapped_none, mapped_more, mapped_all}
use Rattle.r_push.specs.Walk.{grown}
use Rattle.r_push.proofs.Growth.{grown_are}
use Rattle.r_push.proofs.staying.grow_all.Goals as goal

pub loop-i-init : goal.loop-i-init
loop-i-init c = sym (mapped_none (grown c.args.loops c.args.more) 0 0 c.args.regions.now.items (omega arith))

pub loop-i-preserved : goal.loop-i-preserved
loop-i-preserved c =
    let within : c.loop-i.i < length c.args.regions.now.items = omega (arith, c.args.regions.now.ok.0) in
    mapped_more (grown c.args.loops c.args.more) 0 c.loop-i.i c.args.regions.now.items c.loop-i.regions.items c.index_mut.result.now c.grow.new.region c.index_mut.result.now c.loop-i.invariant
    (omega arith) within c.index_mut.ensures.value c.in_ok-grow.ensures

pub returns : goal.returns
returns c =
    let end : length c.args.regions.now.items ≤ c.loop-i.i = omega (arith, c.args.regions.now.ok.0) in
    ap regions_of (c.loop-i.invariant ∙ mapped_all (grown c.args.loops c.args.more) 0 c.loop-i.i c.args.regions.now.items end)
    ∙ grown_are c.args.loops c.args.more c.args.regions.now.items
