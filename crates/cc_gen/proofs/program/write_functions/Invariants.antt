use Rattle.std.proofs.Common.{◌≡◌, ◌≤◌}
use Rattle.cc_io.specs.Sink.{append}
use Rattle.cc_gen.specs.Draws.{state_before}
use Rattle.cc_gen.specs.Generated.{functions_text}
use Rattle.cc_gen.proofs.program.write_functions.Given as goal

-- the functions so far are drawn and written
abbrev pub invariant-loop-number : goal.invariant-loop-number
invariant-loop-number g l = record {
  drawn : l.draws.state ≡ state_before l.start l.number;
  appended : g.S.Sink.held l.out ≡ append (g.S.Sink.held l.initial.out) (functions_text l.start l.number);
  rest : g.S.Sink.rest l.out ≡ g.S.Sink.rest l.initial.out;
  kept : g.S.Sink.faults l.initial.out ≤ g.S.Sink.faults l.out;
}
