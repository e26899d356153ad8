use Rattle.std.proofs.Common.{◌≡◌, ◌<◌, ap, arith}
use Rattle.c_typed.specs.StmtViews.{items_of}
use Rattle.g_build_count.specs.Weights.{items_weight}
use Rattle.g_build_count.proofs.lemmas.Groups.{statement_weight, group_weight}
use Rattle.g_build_count.proofs.jumps.+jumps.Goals as goal

pub groups_jump-items_jump-requires : goal.groups_jump-items_jump-requires
groups_jump-items_jump-requires t c =
    let g = c.group-item.result in
    let same : items_weight (items_of c.deref.result.now) ≡ items_weight (items_of g.body.items) =
    ap (λ xs. items_weight (items_of xs)) c.deref.ensures.value in
    let less : items_weight (items_of c.deref.result.now) < t =
    omega (arith, same, group_weight c.args.groups.now c.loop-group.group-index g c.group-item.is c.loop-group-test.true, c.decreases) in
    (less, tt)

pub items_jump-stmt_jumps-requires : goal.items_jump-stmt_jumps-requires
items_jump-stmt_jumps-requires t c =
    (omega (arith, statement_weight c.args.items.now c.loop-item.item-index c.item-item.result c.in-Statement.a c.item-item.is c.loop-item-test.true c.in-Statement.is, c.decreases), tt)
