-- Plain syntax trees, and an expression without its parentheses.
use Rattle.c_lex.specs.declared.token.Token.{Token}
use Rattle.c_ast.specs.Productions.{Production}
use Rattle.c_ast.specs.Productions as production

-- A leaf is a token with its span. A node has its production and the list of its children.
pub data Tree : Type 0 where
  Leaf : Token → Tree
  Node : Production → Tree → Tree
  Nil : Tree
  Cons : Tree → Tree → Tree

-- The expression that stands in one or more pairs of parentheses, where no comma divides it; any other is itself
-- (ISO 9899:2011, 6.5.1, paragraph 5).
unfoldable pub bare : Tree → Tree
bare (Node production.Paren (Cons opening (Cons (Node production.Expr (Cons t (Cons (Node (production.Empty more) Nil) Nil))) closing))) =
    bare t
bare t = t
