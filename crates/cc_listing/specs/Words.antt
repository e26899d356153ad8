-- The lines of words of the text.
use Rattle.std.specs.Prelude.{ℕ, ◌+◌, ◌/◌, ◌%◌, ◌==◌, Bool, if◌then◌else◌, List, [], ◌∷◌, ◌++◌, codes, Option, Some, None}
use Rattle.std.specs.Int.{from_le_bytes, w32}
use Rattle.rv_isa.specs.Encodings.{decoded}
use Rattle.rv_isa.specs.declared.instruction.Instr.{Instr}
use Rattle.rv_isa.specs.Texts.{hex_digit, text}

-- the words of bytes, each of four, the lowest byte first
abbrev pub words_in : List ℕ → List ℕ
words_in (a ∷ b ∷ c ∷ d ∷ bytes) = from_le_bytes w32 (a ∷ b ∷ c ∷ d ∷ []) ∷ words_in bytes
words_in _ = []

-- a word in hexadecimal, with all eight digits
abbrev pub word_digits : ℕ → List ℕ
word_digits w =
    hex_digit (w / 0x10000000 % 16)
    ∷ hex_digit (w / 0x1000000 % 16)
    ∷ hex_digit (w / 0x100000 % 16)
    ∷ hex_digit (w / 0x10000 % 16)
    ∷ hex_digit (w / 0x1000 % 16)
    ∷ hex_digit (w / 0x100 % 16)
    ∷ hex_digit (w / 0x10 % 16)
    ∷ hex_digit (w % 16)
    ∷ []

-- an instruction; a word that is none stands for itself
abbrev pub code_text : (w : ℕ) → Option Instr → List ℕ
code_text w (Some i) = text i
code_text w None = codes ".4byte\t0x" ++ word_digits w

-- the jump of a call: `jalr` where the return address goes to ra, which its lowest 15 bits say
abbrev pub is_call : (w : ℕ) → Bool
is_call w = w % 0x8000 == 0xe7

-- what a call leads to
abbrev pub callee_text : (callee : List ℕ) → (w : ℕ) → List ℕ
callee_text callee w = if is_call w then codes " " ++ callee else []

-- an instruction, and as a comment its address and its word
abbrev pub word_line : (callee : List ℕ) → (at w : ℕ) → List ℕ
word_line callee at w =
    codes "\t" ++ code_text w (decoded w) ++ codes "\t# " ++ word_digits at ++ codes " " ++ word_digits w ++ callee_text callee w ++ codes "\n"

-- words from an address on
abbrev pub words_text : (callee : List ℕ) → (at : ℕ) → List ℕ → List ℕ
words_text callee at [] = []
words_text callee at (w ∷ ws) = word_line callee at w ++ words_text callee (at + 4) ws
