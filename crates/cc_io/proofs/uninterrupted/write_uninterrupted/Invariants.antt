use Rattle.std.specs.Io.KnownBytes.{Keeps}
use Rattle.cc_io.proofs.uninterrupted.write_uninterrupted.Given as goal

abbrev pub invariant-loop : goal.invariant-loop
invariant-loop g l = record {
  bytes : Keeps (g.W.Write.contents l.initial.writer) (g.W.Write.contents l.writer);
}
