use Rattle.std.proofs.Common.{◌≡◌, ◌+◌, ◌-◌, ap, ◌∙◌, drop, get_or, arith}
use Rattle.std.specs.Prelude.{cond, Some}
use Rattle.std.specs.Ordering.{nat_cmp}
use Rattle.std.specs.BTreeMap.{is_at}
use Rattle.r_edit.specs.Numbering.{number_among}
use Rattle.r_edit.proofs.Found.{number-step}
use Rattle.r_edit.proofs.numbers.numbers_among.Goals as goal

pub loop-i-preserved : goal.loop-i-preserved
loop-i-preserved c =
    let i = c.loop-i.i in
    let ids = c.args.ids.now in
    let key = get_or ids (i - 1) 0 in
    let one : i ≡ (i - 1) + 1 = omega (arith, c.loop-i-test.true) in
    λ n.
    c.in_ok-insert.ensures.updates.0 n
    ∙ ap (λ o. cond (is_at (nat_cmp key) n) (Some (c.args.next + (i - 1))) o) (c.loop-i.invariant n ∙ ap (λ j. number_among (c.args.next + j) (drop j ids) n) one)
    ∙ number-step c.args.next (i - 1) n ids 0 (omega (arith, c.loop-i-test.true, c.loop-i.auto.i))
