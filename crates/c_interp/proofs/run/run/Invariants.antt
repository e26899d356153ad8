-- What holds between two tasks of a run: where it stands, and that no count of faults has fallen.
use Rattle.std.proofs.Common.{◌≡◌, ◌≤◌, false}
use Rattle.c_interp.proofs.Reached.{IsReached}
use Rattle.c_interp.proofs.run.run.Given as goal

abbrev pub invariant-loop-step : goal.invariant-loop-step
invariant-loop-step g l = record {
  reached : IsReached l.program.typed.now l.program.bound
      (record { held = g.O.Sink.held l.fn.output; left = g.I.Source.left l.fn.input; closed = false })
      l.machine
      (record { held = g.O.Sink.held l.output; left = g.I.Source.left l.input; closed = l.at_end });
  reads : g.I.Source.faults l.fn.input ≤ g.I.Source.faults l.input;
  writes : g.O.Sink.faults l.fn.output ≤ g.O.Sink.faults l.output;
  rest : g.O.Sink.rest l.output ≡ g.O.Sink.rest l.fn.output;
}
