use Rattle.std.proofs.Common.{◌+◌, ◌∙◌, take, map, ap, sym}
use Rattle.std.specs.List.{sum}
use Rattle.c_check_def.specs.Limits.{global_bytes}
use Rattle.c_check.proofs.LimitLemmas.{sum-next, passing-next}
use Rattle.c_check.proofs.quantities.many_global_bytes.Goals as goal

pub loop-g-preserved : goal.loop-g-preserved
loop-g-preserved c =
    let defs = c.args.types.now in
    let gs = c.args.gs.now in
    let i = c.loop-g.g-index in
    let g = c.g-item.result in
    let below = c.loop-g-test.true in
    let is = c.g-item.is in
    let had = c.loop-g.invariant in
    let bytes = c.in_ok-global_bytes.field-0 in
    let summed =
    c.in_ok-sum.ensures ∙ ap (λ n. n + bytes) had.0 ∙ ap (λ n. sum (map (global_bytes defs) (take i gs)) + n) c.in_ok-global_bytes.ensures
    ∙ sym (sum-next (global_bytes defs) gs i g below is) in
    (summed, passing-next defs gs i g c.in_ok-sum.sum c.loop-g.passed c.passing-passed.result below is had.1 summed c.passing-passed.ensures)
