-- The keywords of C that the language leaves out.
use Rattle.std.specs.Prelude.{ℕ, Bool, false, List, Option, option_map, find}
use Rattle.c_lex.specs.declared.token.Token.{Token}
use Rattle.c_lex.specs.declared.token.TokenKind.{TokenKind}
use Rattle.c_lex.specs.declared.token.TokenKind.TheVariants as kind
use Rattle.c_lex.specs.Keywords as keyword

abbrev pub is_left_out : TokenKind → Bool
is_left_out (kind.Keyword k) = keyword.is_left_out k
is_left_out _ = false

-- the offset of the first of them
abbrev pub first_left_out : List Token → Option ℕ
first_left_out ts = option_map (λ t. t.at) (find (λ t. is_left_out t.kind) ts)
