-- What a tree spells.
use Rattle.std.specs.Prelude.{ℕ, List, [], ◌∷◌, Option, Some, None, map}
use Rattle.c_lex.specs.declared.token.Token.{Token}
use Rattle.c_lex.specs.declared.token.TokenKind.{TokenKind}
use Rattle.c_ast.specs.Tree.{Tree, Leaf, Node, Nil, Cons}

-- the tokens of a tree, before some others
unfoldable pub spelled : Tree → List Token → List Token
spelled (Leaf x) more = x ∷ more
spelled (Node l children) more = spelled children more
spelled Nil more = more
spelled (Cons child children) more = spelled child (spelled children more)

-- the tokens of a tree
abbrev pub tokens_of : Tree → List Token
tokens_of t = spelled t []

abbrev pub kinds : List Token → List TokenKind
kinds ts = map (λ t. t.kind) ts

-- The kinds of its tokens are the spelling, and where they begin and end the spans.
abbrev pub spell : Tree → List TokenKind
spell t = kinds (tokens_of t)

abbrev pub spans : Tree → List (ℕ × ℕ)
spans t = map (λ t. (t.at, t.end)) (tokens_of t)

-- the offset of the first of some tokens; of the first token of a tree
abbrev pub first_offset : List Token → Option ℕ
first_offset [] = None
first_offset (x ∷ rest) = Some x.at

abbrev pub start_of : Tree → Option ℕ
start_of t = first_offset (tokens_of t)
