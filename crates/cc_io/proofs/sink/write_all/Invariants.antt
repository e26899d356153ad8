use Rattle.std.proofs.Common.{length, ◌-◌, ◌≡◌, ◌≤◌, take}
use Rattle.cc_io.specs.Sink.{append}
use Rattle.cc_io.proofs.sink.write_all.Given as goal

abbrev pub invariant-loop-at : goal.invariant-loop-at
invariant-loop-at g l = record {
  within : l.at ≤ length l.piece;
  appended : g.S.Sink.held l.sink ≡ append (g.S.Sink.held l.initial.sink) (take l.at l.piece);
  rest : g.S.Sink.rest l.sink ≡ g.S.Sink.rest l.initial.sink;
  kept : g.S.Sink.faults l.initial.sink ≤ g.S.Sink.faults l.sink;
}

abbrev pub decreases-loop-at : goal.decreases-loop-at
decreases-loop-at g l = length l.piece - l.at
