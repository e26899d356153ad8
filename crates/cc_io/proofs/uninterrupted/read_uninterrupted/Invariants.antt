use Rattle.std.proofs.Common.{◌≡◌, length}
use Rattle.std.specs.Io.KnownBytes.{Keeps}
use Rattle.cc_io.proofs.uninterrupted.read_uninterrupted.Given as goal

abbrev pub invariant-loop : goal.invariant-loop
invariant-loop g l = record {
  len : length l.buf ≡ length l.initial.buf;
  bytes : Keeps (g.R.Read.remaining l.initial.reader) (g.R.Read.remaining l.reader);
}
