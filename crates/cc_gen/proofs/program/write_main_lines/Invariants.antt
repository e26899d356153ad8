use Rattle.std.proofs.Common.{◌≡◌, ◌≤◌}
use Rattle.cc_io.specs.Sink.{append}
use Rattle.cc_gen.specs.Generated.{main_lines}
use Rattle.cc_gen.proofs.program.write_main_lines.Given as goal

-- the lines so far are written
abbrev pub invariant-loop-number : goal.invariant-loop-number
invariant-loop-number g l = record {
  appended : g.S.Sink.held l.out ≡ append (g.S.Sink.held l.initial.out) (main_lines l.number);
  rest : g.S.Sink.rest l.out ≡ g.S.Sink.rest l.initial.out;
  kept : g.S.Sink.faults l.initial.out ≤ g.S.Sink.faults l.out;
}
