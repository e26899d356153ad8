use Rattle.std.proofs.Common.{◌≡◌, ◌≤◌, take}
use Rattle.cc_io.specs.Sink.{append}
use Rattle.cc_gen.specs.Pieces.{text_of_all}
use Rattle.cc_gen.proofs.pieces.write_pieces.Given as goal

-- the pieces so far are written
abbrev pub invariant-loop-piece : goal.invariant-loop-piece
invariant-loop-piece g l = record {
  appended : g.S.Sink.held l.out ≡ append (g.S.Sink.held l.initial.out) (text_of_all (take l.piece-index l.pieces));
  rest : g.S.Sink.rest l.out ≡ g.S.Sink.rest l.initial.out;
  kept : g.S.Sink.faults l.initial.out ≤ g.S.Sink.faults l.out;
}
