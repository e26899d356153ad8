-- How deep tokens are nested. It is counted on the tokens alone, by a stack of counters.
use Rattle.std.specs.Prelude.{ℕ, ◌+◌, ◌-◌, Bool, ◌||◌, if◌then◌else◌, List, [], ◌∷◌, length, max}
use Rattle.std.specs.List.{sum}
use Rattle.c_lex.specs.declared.keyword.Keyword.TheVariants as word
use Rattle.c_lex.specs.declared.punct.Punct.{Punct}
use Rattle.c_lex.specs.declared.punct.Punct.TheVariants as mark
use Rattle.c_lex.specs.declared.token.TokenKind.{TokenKind}
use Rattle.c_lex.specs.declared.token.TokenKind.TheVariants as kind
use Rattle.c_ast.specs.Terminals.{is, ThisKeyword}

-- one more on the top counter
abbrev pub raised : List ℕ → List ℕ
raised [] = []
raised (top ∷ below) = (top + 1) ∷ below

-- Without the top counter, unless one is left.
abbrev pub popped : List ℕ → List ℕ
popped (top ∷ next ∷ below) = next ∷ below
popped counters = counters

-- A construct has ended: the top counter is 0 again, unless `else` follows.
abbrev pub ended : List TokenKind → List ℕ → List ℕ
ended (kind.Keyword word.Else ∷ rest) counters = counters
ended rest (top ∷ below) = 0 ∷ below
ended rest [] = []

-- the counters after a punctuator, before the tokens `rest`
abbrev pub after_mark : Punct → List TokenKind → List ℕ → List ℕ
after_mark mark.LParen rest counters = 0 ∷ raised counters
after_mark mark.LBracket rest counters = 0 ∷ raised counters
after_mark mark.LBrace rest counters = 0 ∷ counters
after_mark mark.RParen rest counters = popped counters
after_mark mark.RBracket rest counters = popped counters
after_mark mark.RBrace rest counters = ended rest (popped counters)
after_mark mark.Semicolon rest counters = ended rest counters
after_mark mark.Comma rest counters = ended rest counters
after_mark _ rest counters = raised counters

-- the keywords that count
abbrev pub is_counted : TokenKind → Bool
is_counted k =
    is (ThisKeyword word.If) k || is (ThisKeyword word.Else) k || is (ThisKeyword word.While) k || is (ThisKeyword word.Do) k
    || is (ThisKeyword word.For) k || is (ThisKeyword word.Sizeof) k || is (ThisKeyword word.Switch) k

-- the counters after a token, before the tokens `rest`
abbrev pub after_token : TokenKind → List TokenKind → List ℕ → List ℕ
after_token (kind.Punct p) rest counters = after_mark p rest counters
after_token k rest counters = if is_counted k then raised counters else counters

-- the depth that counters stand for: their sum, and their number less one
abbrev pub depth_of : List ℕ → ℕ
depth_of counters = sum counters + length counters - 1

-- the greatest depth after one of the tokens, from these counters on
abbrev pub deepest : List ℕ → List TokenKind → ℕ
deepest counters [] = 0
deepest counters (k ∷ rest) =
    max (depth_of (after_token k rest counters)) (deepest (after_token k rest counters) rest)

-- the depth of a list of tokens
abbrev pub depth : List TokenKind → ℕ
depth ks = deepest (0 ∷ []) ks
