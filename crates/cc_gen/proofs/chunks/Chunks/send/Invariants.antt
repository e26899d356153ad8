use Rattle.std.proofs.Common.{◌≡◌, ◌≤◌, ◌-◌, length, drop}
use Rattle.cc_io.specs.Sink.{append}
use Rattle.cc_gen.proofs.chunks.Chunks.send.Given as goal

-- what is held and what is gathered are together as at first
abbrev pub invariant-loop-self : goal.invariant-loop-self
invariant-loop-self g l = record {
  held : append (g.S.Sink.held l.self.out.now) (drop l.self.sent l.self.chunk.items)
      ≡ append (g.S.Sink.held l.initial.self.out.now) (drop l.initial.self.sent l.initial.self.chunk.items);
  lender : l.self.out.ghost_name ≡ l.initial.self.out.ghost_name;
  first : l.self.first.value ≡ l.initial.self.first.value;
  rest : g.S.Sink.rest l.self.out.now ≡ g.S.Sink.rest l.initial.self.out.now;
  kept : g.S.Sink.faults l.initial.self.out.now ≤ g.S.Sink.faults l.self.out.now;
}

abbrev pub decreases-loop-self : goal.decreases-loop-self
decreases-loop-self g l = length l.self.chunk.items - l.self.sent
