use Rattle.std.proofs.Common.{arith, refl}
use Rattle.std.proofs.lemmas.Bool.{false≢true}
use Rattle.std.proofs.lemmas.List.{get_or_default}
use Rattle.std.proofs.lemmas.List.Elements.{Contains-get_or}
use Rattle.call_order.proofs.known.all_below.Goals as goal

pub returns : goal.returns
returns c = (
  λ is k h. omega (arith, c.loop-callee.invariant h.0 (omega (arith, h.1)), get_or_default c.args.callees.now h.0 0 k h.1, h.2),
  λ all. refl,
)

pub returns-then-callee-count : goal.returns-then-callee-count
returns-then-callee-count c = (
  λ is. absurd (false≢true is),
  λ all. absurd (omega (arith, all _ (Contains-get_or c.args.callees.now c.loop-callee.callee-index 0 c.loop-callee-test.true), c.if-callee-count.true)),
)
