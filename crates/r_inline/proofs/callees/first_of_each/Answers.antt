-- One callee more in front, or none.
use Rattle.std.proofs.Common.{◌≡◌, ◌+◌, ◌-◌, Some, cond, sym, ap, subst, ◌∙◌, drop, map, option_copied, arith}
use Rattle.std.specs.Arc.{arc_value}
use Rattle.std.specs.BTreeMap.{get, is_at}
use Rattle.std.specs.List.{AllByRecursion}
use Rattle.std.specs.Ordering.{nat_cmp}
use Rattle.g_graph.specs.Plain.{PlainLambda}
use Rattle.g_graph.specs.WellFormed.{IsWellFormed}
use Rattle.r_inline.specs.Callees.{numbered}
use Rattle.r_inline.specs.AskedAt.{lambdas_in, callee_at}
use Rattle.r_inline.proofs.Numbered.{found_more, well_more, no_more}
use Rattle.r_inline.proofs.callees.first_of_each.Goals as goal

pub loop-i-preserved-in_ok-insert : goal.loop-i-preserved-in_ok-insert
loop-i-preserved-in_ok-insert c =
    let i = c.loop-i.i in
    let cs = c.args.callees.now in
    let k = c.in-Some.callee.now in
    let old = get nat_cmp c.loop-i.first in
    let one : i ≡ (i - 1) + 1 = omega (arith, c.loop-i-test.true) in
    let number = ap (λ (l : PlainLambda). l.number) c.callee.view_is in (
      well_more arc_value cs (i - 1) k c.in-Some.ensures.callee c.in-Some.ensures.well_formed
          (subst (λ j. AllByRecursion IsWellFormed (lambdas_in (map arc_value (drop j cs)))) one c.loop-i.invariant.0),
      λ f.
          ap (callee_at (lambdas_in (map arc_value cs))) (c.in_ok-insert.ensures.updates.0 f ∙ ap (λ n. cond (is_at (nat_cmp n) f) (Some (i - 1)) (old f)) number)
          ∙ found_more arc_value cs (i - 1) k f (old f) c.in-Some.ensures.callee (c.loop-i.invariant.1 f ∙ ap (λ j. numbered f (lambdas_in (map arc_value (drop j cs)))) one),
    )

pub loop-i-preserved : goal.loop-i-preserved
loop-i-preserved c =
    let i = c.loop-i.i in
    let cs = c.args.callees.now in
    let one : i ≡ (i - 1) + 1 = omega (arith, c.loop-i-test.true) in
    let same = ap (λ j. lambdas_in (map arc_value (drop j cs))) one ∙ no_more arc_value cs (i - 1) (ap option_copied (sym c.in_default.is) ∙ c.lambda_at.ensures.callee) in
    (subst (AllByRecursion IsWellFormed) same c.loop-i.invariant.0, λ f. c.loop-i.invariant.1 f ∙ ap (numbered f) same)
