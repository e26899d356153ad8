use Rattle.std.proofs.Common.{◌≡◌, ℕ, true, false, slice_index_or, refl, subst, ◌∙◌, arith, below_more}
use Rattle.std.proofs.lemmas.List.{get_or_default}
use Rattle.std.proofs.lemmas.List.Elements.{Contains-get_or}
use Rattle.g_pass_work.proofs.spread.is_none_stale.Goals as goal

pub bounds-stale-function : goal.bounds-stale-function
bounds-stale-function c = c.requires _ (Contains-get_or c.args.functions.now c.loop-function.function-index 0 c.loop-function-test.true)

pub returns : goal.returns
returns c = (
  λ is d h.
      let at = get_or_default c.args.functions.now h.0 0 d h.1 ∙ h.2 in
      subst (λ (x : ℕ). slice_index_or c.args.stale.now x true ≡ false) at (c.loop-function.invariant h.0 (omega (arith, h.1))),
  λ all. refl,
)

pub loop-function-preserved : goal.loop-function-preserved
loop-function-preserved c =
    let inside = c.requires _ (Contains-get_or c.args.functions.now c.loop-function.function-index 0 c.loop-function-test.true) in
    below_more _ _ c.loop-function.invariant (get_or_default c.args.stale.now _ true false inside ∙ c.if-stale-function.false)
