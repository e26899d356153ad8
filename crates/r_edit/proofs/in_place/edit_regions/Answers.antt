use Rattle.std.proofs.Common.{◌<◌, ◌≤◌, ◌∙◌, sym, length, arith}
use Rattle.g_graph.proofs.lemmas.Mapped.{mapped_none, mapped_more, mapped_all}
use Rattle.r_edit.proofs.in_place.edit_regions.Goals as goal

pub loop-i-init : goal.loop-i-init
loop-i-init g c = sym (mapped_none (g.E.RegionEdit.region_edited c.args.edit.now) 0 0 c.args.regions.now.items (omega arith))

pub loop-i-preserved : goal.loop-i-preserved
loop-i-preserved g c =
    let within : c.loop-i.i < length c.args.regions.now.items = omega (arith, c.args.regions.now.ok.0) in
    mapped_more (g.E.RegionEdit.region_edited c.args.edit.now) 0 c.loop-i.i c.args.regions.now.items c.loop-i.regions.items c.index_mut.result.now c.edit_region.new.region c.index_mut.result.now
    c.loop-i.invariant (omega arith) within c.index_mut.ensures.value c.edit_region.ensures

pub returns : goal.returns
returns g c =
    let end : length c.args.regions.now.items ≤ c.loop-i.i = omega (arith, c.args.regions.now.ok.0) in
    c.loop-i.invariant ∙ mapped_all (g.E.RegionEdit.region_edited c.args.edit.now) 0 c.loop-i.i c.args.regions.now.items end
