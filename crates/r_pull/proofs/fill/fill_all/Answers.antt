use Rattle.std.specs.Prelude.{slice_index_or}
use Rattle.std.proofs.Common.{◌≡◌, ◌<◌, length, sym, subst, add-one, arith}
use Rattle.r_pull.proofs.Filled.{room-count, filling-begin, filling-room, filling-more, filling-all}
use Rattle.r_pull.proofs.fill.fill_all.Goals as goal

pub index_mut-requires : goal.index_mut-requires
index_mut-requires c = omega (arith, c.loop-i.invariant.regions_count, c.args.regions.now.ok.0, c.loop-i.regions.ok.0)

pub index_mut-requires-in-loop-i : goal.index_mut-requires-in-loop-i
index_mut-requires-in-loop-i c =
    let same = room-count c.args.lists.now.items c.args.regions.now.items c.requires in
    omega (arith, same, c.loop-i.invariant.lists_count, c.args.regions.now.ok.0, c.loop-i.lists.ok.0)

pub fill-requires : goal.fill-requires
fill-requires c =
    let within : c.loop-i.i < length c.args.regions.now.items = omega (arith, c.args.regions.now.ok.0) in
    filling-room c.args.stays.now c.loop-i.i c.args.regions.now.items c.loop-i.regions.items c.args.lists.now.items c.loop-i.lists.items c.index_mut.result.now c.replace.result c.loop-i.invariant
    c.requires within c.index_mut.ensures.value
    (subst (λ z. z ≡ slice_index_or c.loop-i.lists.items c.loop-i.i z) (sym c.replace.ensures.value) c.index_mut-in-loop-i.ensures.value)

pub loop-i-init : goal.loop-i-init
loop-i-init c = filling-begin c.args.stays.now c.args.regions.now.items c.args.lists.now.items

pub loop-i-preserved : goal.loop-i-preserved
loop-i-preserved c =
    let within : c.loop-i.i < length c.args.regions.now.items = omega (arith, c.args.regions.now.ok.0) in
    rw add-one
    (filling-more c.args.stays.now c.loop-i.i c.args.regions.now.items c.loop-i.regions.items c.args.lists.now.items c.loop-i.lists.items c.index_mut.result.now c.fill.new.region c.replace.result
    c.replace.new.dest c.loop-i.invariant c.requires within c.index_mut.ensures.value
    (subst (λ z. z ≡ slice_index_or c.loop-i.lists.items c.loop-i.i z) (sym c.replace.ensures.value) c.index_mut-in-loop-i.ensures.value) c.fill.ensures)

pub returns : goal.returns
returns c =
    filling-all c.args.stays.now c.loop-i.i c.args.regions.now.items c.loop-i.regions.items c.args.lists.now.items c.loop-i.lists.items c.loop-i.invariant (omega (arith, c.args.regions.now.ok.0))
