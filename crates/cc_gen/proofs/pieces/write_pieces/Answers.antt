use Rattle.std.proofs.Common.{rules, []}
use Rattle.cc_gen.specs.Pieces.{text_of}
use Rattle.cc_gen.specs.declared.pieces.Piece.{Piece}
use Rattle.cc_gen.specs.declared.pieces.Piece.TheVariants.{Text}
use Rattle.cc_gen.proofs.PrefixLemmas.{prefix-at, on_err}
use Rattle.cc_gen.proofs.pieces.write_pieces.Goals as goal

pub returns-in_err-write_piece-clause-err : goal.returns-in_err-write_piece-clause-err
returns-in_err-write_piece-clause-err g c =
    let none : Piece = Text (record { ref_ptr = (0, 0); now = [] }) in
    on_err c.from_residual.result (prefix-at text_of c.args.pieces.now c.loop-piece.piece-index none _ _ _ (search rules) c.loop-piece.invariant.appended c.in_err-write_piece.ensures.err)
