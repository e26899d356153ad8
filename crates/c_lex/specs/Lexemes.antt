-- What stands at the front of a text: a blank, a comment, an include line, a token or a fault.
use Rattle.std.specs.Prelude.{ℕ, ◌+◌, ◌==◌, nat_lt, nat_eq, List, take, drop, length, slice_index, Option, Some, None, Result, Ok, Err, codes, if◌then◌else◌}
use Rattle.std.specs.List.{starts_with, prefix_len}
use Rattle.base.specs.Limits.{most_name_bytes}
use Rattle.c_lex.specs.Classes.{is_letter, is_digit, is_name_byte, is_inner_blank, is_line_end}
use Rattle.c_lex.specs.Keywords.{keyword_of}
use Rattle.c_lex.specs.Punctuators.{punct_at, punct_spelling}
use Rattle.c_lex.specs.Numbers.{number_at}
use Rattle.c_lex.specs.Quoted.{char_at, string_at}
use Rattle.c_lex.specs.Trivia.{comment_at, line_comment, include_len}
use Rattle.c_lex.specs.declared.punct.Punct.{Punct}
use Rattle.c_lex.specs.declared.keyword.Keyword.{Keyword}
use Rattle.c_lex.specs.declared.fault.LexFault.{LexFault}
use Rattle.c_lex.specs.declared.fault.LexFault.TheVariants.{BadByte, LongName, Directive}
use Rattle.c_lex.specs.declared.lexeme.Lexeme.{Lexeme}
use Rattle.c_lex.specs.declared.lexeme.Lexeme.TheVariants as lexeme
use Rattle.c_lex.specs.declared.lexeme.Start.{Start}
use Rattle.c_lex.specs.declared.lexeme.Start.TheVariants as start
use Rattle.c_lex.specs.declared.token.TokenKind.{TokenKind}
use Rattle.c_lex.specs.declared.token.TokenKind.TheVariants as kind

-- a keyword where the bytes spell one, else a name
abbrev pub identifier_kind_of : List ℕ → Option Keyword → TokenKind
identifier_kind_of bytes (Some k) = kind.Keyword k
identifier_kind_of bytes None = kind.Name bytes

-- the longest run of letters, digits and `_`, which is to have at most 63 bytes
unfoldable pub identifier_at : ℕ → List ℕ → Result Lexeme LexFault
identifier_at at text =
    let n = prefix_len is_name_byte text in
    if nat_lt most_name_bytes n then Err (LongName at)
    else Ok (lexeme.Token (identifier_kind_of (take n text) (keyword_of (take n text))) n)

abbrev pub punct_lexeme : ℕ → Option Punct → Result Lexeme LexFault
punct_lexeme at (Some p) = Ok (lexeme.Token (kind.Punct p) (length (punct_spelling p)))
punct_lexeme at None = Err (BadByte at)

-- after a `/`: a comment where one begins, else a punctuator
unfoldable pub slash_at : ℕ → List ℕ → Result Lexeme LexFault
slash_at at text =
    if starts_with nat_eq text (codes "/*") then comment_at at (drop 2 text)
    else (if starts_with nat_eq text (codes "//") then Ok (line_comment (drop 2 text)) else punct_lexeme at (punct_at text))

unfoldable pub start_of : ℕ → Start
start_of b =
    if is_line_end b then start.LineEnd
    else (if is_inner_blank b then start.Blank
    else (if is_letter b then start.Letter
    else (if is_digit b then start.Digit
    else (if b == 39 then start.Quote
    else (if b == 34 then start.DoubleQuote
    else (if b == 35 then start.Hash
    else (if b == 47 then start.Slash else start.Other)))))))

unfoldable pub lexeme_of : Start → ℕ → List ℕ → Result Lexeme LexFault
lexeme_of start.LineEnd at text = Ok (lexeme.Trivia (include_len (drop 1 text) + 1))
lexeme_of start.Blank at text = Ok (lexeme.Trivia 1)
lexeme_of start.Letter at text = identifier_at at text
lexeme_of start.Digit at text = number_at at text
lexeme_of start.Quote at text = char_at at (drop 1 text)
lexeme_of start.DoubleQuote at text = string_at at (drop 1 text)
lexeme_of start.Hash at text = Err (Directive at)
lexeme_of start.Slash at text = slash_at at text
lexeme_of start.Other at text = punct_lexeme at (punct_at text)

-- what stands at the front of a text that begins at the offset `at`
abbrev pub lexeme_at : ℕ → List ℕ → Result Lexeme LexFault
lexeme_at at text = lexeme_of (start_of (slice_index text 0)) at text

-- how many bytes a lexeme has
abbrev pub lexeme_len : Lexeme → ℕ
lexeme_len (lexeme.Trivia n) = n
lexeme_len (lexeme.Token k n) = n
