use Rattle.std.proofs.Common.{◌≡◌, map}
use Rattle.c_typed.specs.ProgramEncoding as program
use Rattle.c_check_def.specs.Initialisers.{written_of}
use Rattle.c_check_declaration.specs.Pieces.{trees_of}
use Rattle.c_check_declaration.proofs.pieces.Pieces.into_written.Given as goal

abbrev pub invariant-loop-piece : goal.invariant-loop-piece
invariant-loop-piece l = map program.written_of l.all.items ≡ written_of (trees_of l.yielded)
