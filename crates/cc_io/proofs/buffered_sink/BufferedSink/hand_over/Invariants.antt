use Rattle.std.proofs.Common.{◌≡◌, ◌≤◌, ◌-◌, length}
use Rattle.cc_io.specs.Buffered.{sink_behind, held_with, has_failed, faults_of}
use Rattle.cc_io.proofs.buffered_sink.BufferedSink.hand_over.Given as goal

-- what the sink behind holds and what is gathered are together as at first
abbrev pub invariant-loop-self : goal.invariant-loop-self
invariant-loop-self g l = record {
  held : held_with g.S.Sink.held l.self ≡ held_with g.S.Sink.held l.initial.self;
  rest : g.S.Sink.rest (sink_behind l.self) ≡ g.S.Sink.rest (sink_behind l.initial.self);
  kept : g.S.Sink.faults (sink_behind l.initial.self) ≤ g.S.Sink.faults (sink_behind l.self);
  has_failed : has_failed l.self ≡ has_failed l.initial.self;
  faults : faults_of l.self ≡ faults_of l.initial.self;
}

abbrev pub decreases-loop-self : goal.decreases-loop-self
decreases-loop-self g l = length l.self.buffer.items - l.self.sent
