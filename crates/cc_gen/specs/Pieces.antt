-- Pieces of a text, and what a sink holds after a prefix of a text was written.
use Rattle.std.specs.Prelude.{◌≡◌, ◌≤◌, ℕ, List, Option, length, take, decimal}
use Rattle.std.specs.List.{flat_map}
use Rattle.cc_io.specs.Sink.{append}
use Rattle.cc_gen.specs.declared.pieces.Piece.{Piece}
use Rattle.cc_gen.specs.declared.pieces.Piece.TheVariants.{Text, Number}

-- the text of a piece
abbrev pub text_of : Piece → List ℕ
text_of (Text text) = text.now
text_of (Number number) = decimal number

-- the text of pieces, one after the other
abbrev pub text_of_all : List Piece → List ℕ
text_of_all pieces = flat_map text_of pieces

-- after what was held before, a prefix of the text is held
pub record HoldsPrefix (text : List ℕ) (before after : Option (List ℕ)) : Type 0 where
  pub count : ℕ
  pub within : count ≤ length text
  pub held : after ≡ append before (take count text)
