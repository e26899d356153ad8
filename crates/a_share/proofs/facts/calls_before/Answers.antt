use Rattle.std.proofs.Common.{◌≡◌, ◌+◌, ◌≤◌, ◌∙◌, sym, ap, get_or, arith}
use Rattle.a_share.specs.Tables.{calls_before}
use Rattle.a_share.proofs.Tables.{seen, calls_yes, calls_no, pushed}
use Rattle.a_share.proofs.facts.calls_before.Goals as goal
use Rattle.a_share.proofs.facts.calls_before.Goals.{then-is_call, else-is_call}

pub loop-line-preserved : goal.loop-line-preserved
loop-line-preserved c =
    let ls = c.args.lines.now in
    let i = c.loop-line.line-index in
    let before = c.loop-line.invariant in
    let now : c.if-is_call.calls ≡ calls_before (seen ls) (i + 1) =
    elim c.if-is_call.branch [
      | then-is_call w ↦ w.calls-is ∙ calls_yes ls i c.loop-line.calls c.line-item.result c.loop-line-test.true c.line-item.is before.now (sym c.is_call.ensures ∙ w.if-is_call.true)
      | else-is_call w ↦ w.calls-is ∙ calls_no ls i c.loop-line.calls c.line-item.result c.loop-line-test.true c.line-item.is before.now (sym c.is_call.ensures ∙ w.if-is_call.false)
    ] in
    let few : c.if-is_call.calls ≤ i + 1 =
    elim c.if-is_call.branch [
      | then-is_call w ↦ omega (arith, w.calls-is, before.few)
      | else-is_call w ↦ omega (arith, w.calls-is, before.few)
    ] in
    record {
      count = omega (arith, c.in_ok-push-2.ensures.len, before.count);
      few = few;
      now = now;
      before = λ k h.
          ap (λ z. get_or z k 0) c.in_ok-push-2.ensures.items
          ∙ pushed (calls_before (seen ls)) c.loop-line.before.items c.if-is_call.calls 0 (i + 1) (omega (arith, c.loop-line.before.ok.0, before.count))
          (λ j l. before.before j (omega arith)) now k (omega arith);
    }
