use Rattle.std.proofs.Common.{map, ap, ◌∙◌}
use Rattle.c_typed.specs.ProgramEncoding as program
use Rattle.c_check_declaration.proofs.PieceLemmas.{written-more}
use Rattle.c_check_declaration.proofs.pieces.Pieces.into_written.Goals as goal

pub loop-piece-preserved : goal.loop-piece-preserved
loop-piece-preserved c =
    ap (map program.written_of) c.in_ok-push.ensures.items
    ∙ written-more c.loop-piece.all.items c.in_ok-written.field-0 c.loop-piece.yielded c.in-Some.piece c.loop-piece.invariant c.in_ok-written.ensures
