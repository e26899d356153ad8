use Rattle.std.proofs.Common.{◌≡◌, ◌≤◌, false, None}
use Rattle.rv_machine.specs.View.{flags_in, hart_of}
use Rattle.rv_machine.proofs.Reached.{IsReached}
use Rattle.rv_machine.proofs.machine.Machine.run.Given as goal

abbrev pub invariant-loop-done : goal.invariant-loop-done
invariant-loop-done g l = record {
  runs : l.self.ending ≡ None;
  reached : IsReached (flags_in l.fn.self) l._done (hart_of l.fn.self)
      (record { held = g.O.Sink.held l.fn.output; left = g.I.Source.left l.fn.input; closed = false })
      (hart_of l.self)
      (record { held = g.O.Sink.held l.output; left = g.I.Source.left l.input; closed = l.at_end });
  flags : flags_in l.self ≡ flags_in l.fn.self;
  reads : g.I.Source.faults l.fn.input ≤ g.I.Source.faults l.input;
  writes : g.O.Sink.faults l.fn.output ≤ g.O.Sink.faults l.output;
  rest : g.O.Sink.rest l.output ≡ g.O.Sink.rest l.fn.output;
}
