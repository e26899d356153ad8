use Rattle.std.proofs.Common.{◌-◌, length, take, drop, ap, ◌∙◌, arith, length-drop}
use Rattle.std.proofs.lemmas.List.{take_all}
use Rattle.cc_io.specs.Sink.{append}
use Rattle.cc_io.proofs.lemmas.Sink.{append-handed}
use Rattle.cc_io.proofs.buffered_sink.BufferedSink.hand_over.Goals as goal

pub loop-self-preserved : goal.loop-self-preserved
loop-self-preserved g c =
    let wrote = c.in_ok-n.ensures in
    let was = c.loop-self.self in
    let all = take_all (length c.as_slice.result.now - was.sent) (drop was.sent c.as_slice.result.now) (omega (arith, length-drop was.sent c.as_slice.result.now)) in
    let bytes = wrote.bytes
    ∙ ap (λ ys. append (g.S.Sink.held was.sink) (take c.in_ok-n.n ys)) all
    ∙ ap (λ xs. append (g.S.Sink.held was.sink) (take c.in_ok-n.n (drop was.sent xs))) c.as_slice.ensures.value in
    record {
      held = append-handed (g.S.Sink.held was.sink) _ was.buffer.items was.sent c.in_ok-n.n bytes ∙ c.loop-self.invariant.held;
      rest = wrote.rest ∙ c.loop-self.invariant.rest;
      kept = omega (arith, wrote.cause.kept, c.loop-self.invariant.kept);
      has_failed = c.loop-self.invariant.has_failed;
      faults = c.loop-self.invariant.faults;
    }
