use Rattle.std.proofs.Common.{◌≡◌, ◌+◌, ◌<◌, length, ap, ◌∙◌, sym, arith}
use Rattle.c_typed.specs.StmtViews.{items_of}
use Rattle.g_build_def.specs.Switch.{ends_with_jump}
use Rattle.g_build_count.proofs.lemmas.Groups.{ends_at_last, ends_inside}
use Rattle.g_build_count.proofs.switch.ends_segment.Goals as goal

pub returns-then-i-groups : goal.returns-then-i-groups
returns-then-i-groups c = ends_at_last c.args.groups.now c.args.i c.if-i-groups.true

pub returns : goal.returns
returns c =
    let g = c.index-groups-i.result in
    let more : c.args.i + 1 < length c.args.groups.now = omega (arith, c.if-i-groups.false, c.requires) in
    let same : c.ends_with_jump.result ≡ ends_with_jump (items_of g.body.items) =
    c.ends_with_jump.ensures ∙ ap (λ xs. ends_with_jump (items_of xs)) (c.deref.ensures.value ∙ ap (λ y. y.body.items) (sym c.index-groups-i.is)) in
    ends_inside c.args.groups.now c.args.i g c.ends_with_jump.result c.index-groups-i.is more same
