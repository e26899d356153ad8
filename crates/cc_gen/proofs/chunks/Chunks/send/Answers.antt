use Rattle.std.proofs.Common.{◌-◌, length, take, drop, ap, ◌∙◌, arith, length-drop}
use Rattle.std.proofs.lemmas.List.{take_all}
use Rattle.cc_io.specs.Sink.{append}
use Rattle.cc_gen.proofs.ChunksLemmas.{sent-more}
use Rattle.cc_gen.proofs.chunks.Chunks.send.Goals as goal

pub loop-self-preserved : goal.loop-self-preserved
loop-self-preserved g c =
    let wrote = c.in_ok-n.ensures in
    let was = c.loop-self.self in
    let all = take_all (length c.as_slice.result.now - was.sent) (drop was.sent c.as_slice.result.now) (omega (arith, length-drop was.sent c.as_slice.result.now)) in
    let bytes = wrote.bytes
    ∙ ap (λ ys. append (g.S.Sink.held was.out.now) (take c.in_ok-n.n ys)) all
    ∙ ap (λ xs. append (g.S.Sink.held was.out.now) (take c.in_ok-n.n (drop was.sent xs))) c.as_slice.ensures.value in
    record {
      held = sent-more (g.S.Sink.held was.out.now) _ was.chunk.items was.sent c.in_ok-n.n bytes ∙ c.loop-self.invariant.held;
      lender = c.loop-self.invariant.lender;
      first = c.loop-self.invariant.first;
      rest = wrote.rest ∙ c.loop-self.invariant.rest;
      kept = omega (arith, wrote.cause.kept, c.loop-self.invariant.kept);
    }
