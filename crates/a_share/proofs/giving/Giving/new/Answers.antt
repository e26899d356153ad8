use Rattle.std.proofs.Common.{sym, subst, get_or, arith}
use Rattle.a_share.specs.Facts.{line_number}
use Rattle.a_share.specs.Held.{IsEmpty, IsHeld}
use Rattle.a_share.proofs.Tables.{at_push}
use Rattle.a_share.proofs.giving.Giving.new.Goals as goal

pub loop-preserved : goal.loop-preserved
loop-preserved c =
    let F = c.args.facts.now in
    let before = c.loop.invariant in
    let held : IsHeld (line_number F) c.new.result = subst (λ n. IsHeld n c.new.result) c.len-lines.ensures c.new.ensures.held in
    record {
      count = omega (arith, c.in_ok-push.ensures.len, before.count);
      held = λ p d h.
          subst (λ z. IsHeld (line_number F) (get_or z p d)) (sym c.in_ok-push.ensures.items)
          (at_push (IsHeld (line_number F)) c.loop.held.items c.new.result c.loop.counter (omega (arith, c.loop.held.ok.0, before.count)) before.held held p d h);
      empty = λ p d h.
          subst (λ z. IsEmpty (get_or z p d)) (sym c.in_ok-push.ensures.items)
          (at_push IsEmpty c.loop.held.items c.new.result c.loop.counter (omega (arith, c.loop.held.ok.0, before.count)) before.empty c.new.ensures.empty p d h);
    }
