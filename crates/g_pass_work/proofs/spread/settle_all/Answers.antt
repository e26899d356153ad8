use Rattle.std.proofs.Common.{ℕ, ◌∙◌, subst, arith, below_more}
use Rattle.std.proofs.lemmas.List.{get_or_default}
use Rattle.std.proofs.lemmas.List.Elements.{Contains-get_or}
use Rattle.call_order.specs.Units.{call_lists}
use Rattle.g_pass_work.specs.Ranks.{IsSettled}
use Rattle.g_pass_work.proofs.spread.settle_all.Goals as goal

pub settle-requires-clause-inside : goal.settle-requires-clause-inside
settle-requires-clause-inside c = c.requires.inside _ (Contains-get_or c.args.functions.now c.loop-function.function-index 0 c.loop-function-test.true)

pub settle-requires-clause-settled : goal.settle-requires-clause-settled
settle-requires-clause-settled c d h =
    c.loop-function.invariant.1 d (c.requires.settled _ d (Contains-get_or c.args.functions.now c.loop-function.function-index 0 c.loop-function-test.true) h)

pub loop-function-preserved : goal.loop-function-preserved
loop-function-preserved c = (
  below_more _ _ (λ e low. c.settle.ensures.kept _ (c.loop-function.invariant.0 e low)) c.settle.ensures.settled,
  λ j was. c.settle.ensures.kept j (c.loop-function.invariant.1 j was),
)

pub returns-clause-settled : goal.returns-clause-settled
returns-clause-settled c f h =
    let at = get_or_default c.args.functions.now h.0 0 f h.1 ∙ h.2 in
    subst (λ (x : ℕ). IsSettled (call_lists c.args.deps.now) c.args.changed.now c.loop-function.stale x) at (c.loop-function.invariant.0 h.0 (omega (arith, h.1)))
