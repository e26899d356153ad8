-- What stands between tokens: blanks, comments (ISO 9899:2011, 6.4.9) and include lines.
use Rattle.std.specs.Prelude.{ℕ, ◌+◌, ◌-◌, Bool, true, nat_eq, List, [], ◌∷◌, drop, length, Option, Some, None, Result, Ok, codes, if◌then◌else◌}
use Rattle.std.specs.List.{starts_with, position_or_len, prefix_len}
use Rattle.std.specs.Option.{ok_or, option_and_then, option_map_or}
use Rattle.c_lex.specs.Classes.{is_inner_blank, is_line_end}
use Rattle.c_lex.specs.Results.{◌>>=◌}
use Rattle.c_lex.specs.declared.fault.LexFault.{LexFault}
use Rattle.c_lex.specs.declared.fault.LexFault.TheVariants.{OpenComment}
use Rattle.c_lex.specs.declared.lexeme.Lexeme.{Lexeme}
use Rattle.c_lex.specs.declared.lexeme.Lexeme.TheVariants as lexeme

-- where the first `*/` ends, in a text that begins at the offset `at`
abbrev pub comment_end : ℕ → List ℕ → Option ℕ
comment_end at [] = None
comment_end at (b ∷ bs) = if starts_with nat_eq (b ∷ bs) (codes "*/") then Some (at + 2) else comment_end (at + 1) bs

-- a comment after its `/*`
unfoldable pub comment_at : ℕ → List ℕ → Result Lexeme LexFault
comment_at at text = ok_or (comment_end 0 text) (OpenComment at) >>= λ n. Ok (lexeme.Trivia (n + 2))

-- a comment after its `//`: the rest of the line
unfoldable pub line_comment : List ℕ → Lexeme
line_comment text = lexeme.Trivia (position_or_len is_line_end text + 2)

-- what follows a prefix
abbrev pub past : List ℕ → List ℕ → Option (List ℕ)
past prefix text = if starts_with nat_eq text prefix then Some (drop (length prefix) text) else None

-- what follows the blanks at the front
abbrev pub past_blanks : List ℕ → List ℕ
past_blanks text = drop (prefix_len is_inner_blank text) text

-- what follows one of the two headers
abbrev pub past_header : List ℕ → Option (List ℕ)
past_header text =
    if starts_with nat_eq text (codes "<stdio.h>") then Some (drop 9 text)
    else (if starts_with nat_eq text (codes "<stdlib.h>") then Some (drop 10 text) else None)

-- no more of the line follows
abbrev pub ends_line : List ℕ → Bool
ends_line [] = true
ends_line (b ∷ bs) = is_line_end b

-- What follows a line that holds only `#include <stdio.h>` or `#include <stdlib.h>`, blanks apart: the end of that
-- line. Blanks may stand before and after `#`, before `<` and at the end.
unfoldable pub past_include : List ℕ → Option (List ℕ)
past_include line =
    option_and_then (λ a. option_and_then (λ b. option_and_then
    (λ c. if ends_line (past_blanks c) then Some (past_blanks c) else None)
    (past_header (past_blanks b)))
    (past (codes "include") (past_blanks a)))
    (past (codes "#") (past_blanks line))

-- how many bytes of the text are an include line; none where its first line is not one
abbrev pub include_len : List ℕ → ℕ
include_len line = option_map_or (λ rest. length line - length rest) (past_include line) 0
