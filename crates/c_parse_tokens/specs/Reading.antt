-- What a function of the parser returned, against the reader of the grammar.
use Rattle.std.specs.Prelude.{◌≡◌, ℕ, Bool, List, [], ◌∷◌, Option, Some, None, Result, Ok, Err}
use Rattle.base.specs.declared.bytes.Bytes.{Bytes}
use Rattle.base.specs.declared.name.Name.{Name}
use Rattle.c_lex.specs.declared.token.Token.{Token}
use Rattle.c_lex.specs.declared.token.TokenKind.{TokenKind}
use Rattle.c_lex.specs.declared.token.TokenKind.TheVariants as kind
use Rattle.c_ast.specs.declared.token.Span.{Span}
use Rattle.c_ast.specs.Tree.{Tree}
use Rattle.c_ast.specs.Reader.{ReadResult, Read, SyntaxError, OutOfFuel}
use Rattle.c_ast.specs.PredictSets.{head}
use Rattle.c_parse_tokens.specs.declared.fault.Fault.{Fault}
use Rattle.c_parse_tokens.specs.declared.fault.Fault.TheVariants as fault

-- The tree that the reader gives, with the same tokens after it; or the same tokens from the first wrong one on; or the
-- reader's bound is passed. Want of memory comes in offset of any answer.
abbrev pub Gives : {X : Type 0} → (X → Tree) → ReadResult → Result X Fault → List Token → Type 0
Gives view o (Ok x) left = o ≡ Read (view x) left
Gives view o (Err fault.Syntax) left = o ≡ SyntaxError left
Gives view o (Err fault.OutOfFuel) left = o ≡ OutOfFuel
Gives view o (Err fault.NoMemory) left = Unit {0}

-- a token of this kind
abbrev pub token_at : TokenKind → Span → Token
token_at k span = record { kind = k; at = span.at; end = span.end }

-- The next token is taken: it has the kind that was ahead, and stands at the span.
abbrev pub Takes : List Token → Span → List Token → Type 0
Takes before span after = (k : TokenKind) → head before ≡ Some k → before ≡ token_at k span ∷ after

-- where the next token stands, or the end of the text
abbrev pub offset_of : List Token → ℕ → ℕ
offset_of [] length = length
offset_of (x ∷ rest) length = x.at

abbrev pub name_of : TokenKind → Option Name
name_of (kind.Name n) = Some n
name_of _ = None

abbrev pub number_of : TokenKind → Option (ℕ × Bool)
number_of (kind.Number value unsigned) = Some (value, unsigned)
number_of _ = None

abbrev pub char_of : TokenKind → Option ℕ
char_of (kind.Char c) = Some c
char_of _ = None

abbrev pub literal_of : TokenKind → Option Bytes
literal_of (kind.Text cs) = Some cs
literal_of _ = None
