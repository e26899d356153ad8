-- Encoding and decoding undo each other.
use Rattle.std.specs.Prelude.{◌≡◌, ℕ, ◌<◌, ◌^◌, Some, is_some}
use Rattle.rv_isa.specs.Encodings.{decoded, some_encoding_matches}
use Rattle.rv_isa.specs.Words.{word_of, FitsFormat}
use Rattle.rv_isa.specs.declared.instruction.Instr.{Instr}

abbrev pub EncodedFitsWord : Type 0
EncodedFitsWord = (i : Instr) → FitsFormat i → word_of i < 2 ^ 32

abbrev pub EncodedDecodes : Type 0
EncodedDecodes = (i : Instr) → FitsFormat i → decoded (word_of i) ≡ Some i

abbrev pub DecodedEncodes : Type 0
DecodedEncodes =
    (w : ℕ) (i : Instr) → w < 2 ^ 32 → decoded w ≡ Some i → (word_of i ≡ w) × FitsFormat i

abbrev pub SomeIfMatched : Type 0
SomeIfMatched = (w : ℕ) → is_some (decoded w) ≡ some_encoding_matches w
