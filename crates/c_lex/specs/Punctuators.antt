-- The punctuators (ISO 9899:2011, 6.4.6) of the compiled language, and how each is written.
use Rattle.std.specs.Prelude.{ℕ, List, [], ◌∷◌, Option, codes, nat_eq, ◌==◌, slice_index, find, filter}
use Rattle.std.specs.List.{starts_with}
use Rattle.c_lex.specs.declared.punct.Punct.{Punct}
use Rattle.c_lex.specs.declared.punct.Punct.TheVariants as mark

abbrev pub punct_spelling : Punct → List ℕ
punct_spelling mark.LParen = codes "("
punct_spelling mark.RParen = codes ")"
punct_spelling mark.LBracket = codes "["
punct_spelling mark.RBracket = codes "]"
punct_spelling mark.LBrace = codes "{"
punct_spelling mark.RBrace = codes "}"
punct_spelling mark.Semicolon = codes ";"
punct_spelling mark.Comma = codes ","
punct_spelling mark.Dot = codes "."
punct_spelling mark.Arrow = codes "->"
punct_spelling mark.PlusPlus = codes "++"
punct_spelling mark.MinusMinus = codes "--"
punct_spelling mark.Amp = codes "&"
punct_spelling mark.Star = codes "*"
punct_spelling mark.Plus = codes "+"
punct_spelling mark.Minus = codes "-"
punct_spelling mark.Tilde = codes "~"
punct_spelling mark.Bang = codes "!"
punct_spelling mark.Slash = codes "/"
punct_spelling mark.Percent = codes "%"
punct_spelling mark.ShiftLeft = codes "<<"
punct_spelling mark.ShiftRight = codes ">>"
punct_spelling mark.Less = codes "<"
punct_spelling mark.Greater = codes ">"
punct_spelling mark.LessEqual = codes "<="
punct_spelling mark.GreaterEqual = codes ">="
punct_spelling mark.EqualEqual = codes "=="
punct_spelling mark.BangEqual = codes "!="
punct_spelling mark.Caret = codes "^"
punct_spelling mark.Pipe = codes "|"
punct_spelling mark.AmpAmp = codes "&&"
punct_spelling mark.PipePipe = codes "||"
punct_spelling mark.Question = codes "?"
punct_spelling mark.Colon = codes ":"
punct_spelling mark.Equal = codes "="
punct_spelling mark.StarEqual = codes "*="
punct_spelling mark.SlashEqual = codes "/="
punct_spelling mark.PercentEqual = codes "%="
punct_spelling mark.PlusEqual = codes "+="
punct_spelling mark.MinusEqual = codes "-="
punct_spelling mark.ShiftLeftEqual = codes "<<="
punct_spelling mark.ShiftRightEqual = codes ">>="
punct_spelling mark.AmpEqual = codes "&="
punct_spelling mark.CaretEqual = codes "^="
punct_spelling mark.PipeEqual = codes "|="

-- the longer ones first
abbrev pub all_puncts : List Punct
all_puncts =
    mark.ShiftLeftEqual ∷ mark.ShiftRightEqual ∷ mark.Arrow ∷ mark.PlusPlus ∷ mark.MinusMinus ∷
    mark.ShiftLeft ∷ mark.ShiftRight ∷ mark.LessEqual ∷ mark.GreaterEqual ∷ mark.EqualEqual ∷ mark.BangEqual ∷
    mark.AmpAmp ∷ mark.PipePipe ∷ mark.StarEqual ∷ mark.SlashEqual ∷ mark.PercentEqual ∷ mark.PlusEqual ∷
    mark.MinusEqual ∷ mark.AmpEqual ∷ mark.CaretEqual ∷ mark.PipeEqual ∷ mark.LParen ∷ mark.RParen ∷
    mark.LBracket ∷ mark.RBracket ∷ mark.LBrace ∷ mark.RBrace ∷ mark.Semicolon ∷ mark.Comma ∷ mark.Dot ∷
    mark.Amp ∷ mark.Star ∷ mark.Plus ∷ mark.Minus ∷ mark.Tilde ∷ mark.Bang ∷ mark.Slash ∷ mark.Percent ∷
    mark.Less ∷ mark.Greater ∷ mark.Caret ∷ mark.Pipe ∷ mark.Question ∷ mark.Colon ∷ mark.Equal ∷ []

-- the longest punctuator that the text begins with: the first in that order
abbrev pub punct_at : List ℕ → Option Punct
punct_at text = find (λ p. starts_with nat_eq text (punct_spelling p)) all_puncts

-- the punctuators that begin with this byte, in that order
abbrev pub puncts_beginning_with : ℕ → List Punct
puncts_beginning_with b = filter (λ p. slice_index (punct_spelling p) 0 == b) all_puncts
