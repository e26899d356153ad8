use Rattle.std.proofs.Common.{◌≡◌, ◌+◌, ◌≤◌, arith}
use Rattle.a_share.specs.Counts.{between}
use Rattle.a_share.proofs.Counting.{between_next, counts_fit}
use Rattle.a_share.proofs.held.Held.needed_after.Goals as goal

pub overflow_add-begun : goal.overflow_add-begun
overflow_add-begun c =
    let h = c.args.self.now in
    let i = c.args.position in
    let whole : between h.firsts 0 (i + 1) ≡ between h.firsts 0 i + between h.firsts i (i + 1) = between_next h.firsts i in
    let most : between h.firsts 0 (i + 1) ≤ 4294967295 = counts_fit h.firsts c.requires.held.firsts 0 (i + 1) (omega arith) (omega (arith, c.requires.inside)) in
    omega (arith, whole, most, c.sums-begun.ensures.own, c.sum-here.ensures)

pub returns : goal.returns
returns c =
    let h = c.args.self.now in
    let i = c.args.position in
    let whole : between h.firsts 0 (i + 1) ≡ between h.firsts 0 i + between h.firsts i (i + 1) = between_next h.firsts i in
    omega (arith, whole, c.saturating_sub.ensures, c.sums-begun.ensures.own, c.sums-begun.ensures.other, c.sum-here.ensures)
