use Rattle.std.proofs.Common.{ℕ, ◌≤◌, slice_index, inl, inr, arith, ◌∙◌, subst, below_more}
use Rattle.std.proofs.lemmas.List.{get_or_default}
use Rattle.std.proofs.lemmas.List.Elements.{Contains-get_or}
use Rattle.call_order.specs.Search.{above, stage_of}
use Rattle.call_order.proofs.StageLemmas.{max-steps}
use Rattle.call_order.proofs.stages.rank_above.Goals as goal

pub bounds-stages-callee : goal.bounds-stages-callee
bounds-stages-callee c = c.requires.known _ (Contains-get_or c.args.callees.now c.loop-callee.callee-index 0 c.loop-callee-test.true)

pub loop-callee-preserved : goal.loop-callee-preserved
loop-callee-preserved c =
    let now = c.loop-callee.invariant in
    let steps = max-steps c.loop-callee.top c.above.result c.max-top.result c.max-top.ensures in
    let callee = slice_index c.args.callees.now c.loop-callee.callee-index in (
      omega (arith, now.0, steps.0),
      below_more _ _ (λ e h. omega (arith, now.1 e h, steps.0)) (omega (arith, c.above.ensures, steps.1)),
      elim steps.2 [
        | inl same ↦ elim now.2 [ inl e ↦ inl (omega arith) | inr some ↦ inr (some.0, some.1, omega (arith, some.2)) ]
        | inr here ↦ inr (callee, Contains-get_or c.args.callees.now c.loop-callee.callee-index 0 c.loop-callee-test.true, here ∙ c.above.ensures)
      ],
    )

pub returns-clause-above : goal.returns-clause-above
returns-clause-above c k h =
    let is = get_or_default c.args.callees.now h.0 0 k h.1 in
    let family : ℕ → Type 0 = λ x. above (stage_of c.args.stages.now x) ≤ c.loop-callee.top in
    subst family (is ∙ h.2) (c.loop-callee.invariant.1 h.0 (omega (arith, h.1)))
