use Rattle.std.proofs.Common.{arith}
use Rattle.std.proofs.Common.{length-take, length-drop, ◌∙◌}
use Rattle.cc_io.proofs.lemmas.Sink.{append-next}
use Rattle.cc_io.proofs.sink.write_all.Goals as goal

pub loop-at-preserved : goal.loop-at-preserved
loop-at-preserved g c =
    let wrote = c.in_ok-n.ensures in
    record {
      within = omega (arith, simp (length-take, length-drop) at wrote.count);
      appended = append-next _ _ _ _ _ _ _ wrote.count c.loop-at.invariant.appended wrote.bytes;
      rest = wrote.rest ∙ c.loop-at.invariant.rest;
      kept = omega (arith, wrote.cause.kept);
    }
