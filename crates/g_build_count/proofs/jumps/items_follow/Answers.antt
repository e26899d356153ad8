use Rattle.std.proofs.Common.{◌+◌, ◌<◌, ◌≤◌, length, arith}
use Rattle.g_build_count.proofs.lemmas.Groups.{items_follow, no_items_follow}
use Rattle.g_build_count.proofs.jumps.items_follow.Goals as goal

pub returns-then-i-items : goal.returns-then-i-items
returns-then-i-items c =
    let last : length c.args.items.now ≤ c.args.i + 1 = omega (arith, c.if-i-items.true) in no_items_follow c.args.items.now (c.args.i + 1) last

pub returns : goal.returns
returns c =
    let more : c.args.i + 1 < length c.args.items.now = omega (arith, c.if-i-items.false, c.requires) in items_follow c.args.items.now (c.args.i + 1) more
