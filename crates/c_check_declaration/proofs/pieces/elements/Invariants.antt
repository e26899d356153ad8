use Rattle.std.proofs.Common.{◌≡◌}
use Rattle.c_typed.specs.StmtViews.{elements_of}
use Rattle.c_check_declaration.specs.Pieces.{trees_of}
use Rattle.c_check_declaration.proofs.pieces.elements.Given as goal

abbrev pub invariant-loop-piece : goal.invariant-loop-piece
invariant-loop-piece l = elements_of l.all.items ≡ trees_of l.yielded
