-- Trees as they are written in views.
use Rattle.std.specs.Prelude.{List, [], ◌∷◌, fold, Option, Some, None}
use Rattle.c_lex.specs.declared.keyword.Keyword.{Keyword}
use Rattle.c_lex.specs.declared.punct.Punct.{Punct}
use Rattle.c_lex.specs.declared.token.TokenKind.{TokenKind}
use Rattle.c_lex.specs.declared.token.TokenKind.TheVariants as kind
use Rattle.c_ast.specs.declared.token.Span.{Span}
use Rattle.c_ast.specs.declared.token.Identifier.{Identifier}
use Rattle.c_ast.specs.Productions.{Production, Repeated, Optional}
use Rattle.c_ast.specs.Productions as production
use Rattle.c_ast.specs.Tree.{Tree, Leaf, Node, Nil, Cons}

-- the list of a node's children
abbrev pub children : List Tree → Tree
children [] = Nil
children (t ∷ ts) = Cons t (children ts)

abbrev pub node : Production → List Tree → Tree
node l ts = Node l (children ts)

-- ---- leaves

abbrev pub leaf : TokenKind → Span → Tree
leaf k span = Leaf (record { kind = k; at = span.at; end = span.end })

abbrev pub mark : Punct → Span → Tree
mark p span = leaf (kind.Punct p) span

abbrev pub word : Keyword → Span → Tree
word w span = leaf (kind.Keyword w) span

abbrev pub name : Identifier → Tree
name i = leaf (kind.Name i.name) i.span

-- ---- repetitions and options, from the children of an element

abbrev pub one_more : {X : Type 0} → Repeated → (X → List Tree) → Tree → X → Tree
one_more k element before x = node (production.More k) (before ∷ element x)

abbrev pub none_of : Repeated → Tree
none_of k = node (production.Empty k) []

unfoldable pub many : {X : Type 0} → Repeated → (X → List Tree) → List X → Tree
many k element xs = fold (one_more k element) (none_of k) xs

abbrev pub opt : {X : Type 0} → Optional → (X → List Tree) → Option X → Tree
opt k element None = node (production.Absent k) []
opt k element (Some x) = node (production.Present k) (element x)
