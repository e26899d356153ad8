-- What the parser makes on the way, as plain trees.
use Rattle.std.specs.Prelude.{[], ◌∷◌, Option, Some, None}
use Rattle.c_lex.specs.declared.keyword.Keyword.TheVariants as w
use Rattle.c_lex.specs.declared.punct.Punct.TheVariants as m
use Rattle.c_ast.specs.declared.token.Span.{Span}
use Rattle.c_ast.specs.Productions.{Production}
use Rattle.c_ast.specs.Productions as production
use Rattle.c_ast.specs.Declarations.{init_tree, inits, ended_by}
use Rattle.c_ast.specs.Expressions.{list_tree}
use Rattle.c_ast.specs.Nodes.{node, mark, word}
use Rattle.c_ast.specs.Statements.{stmt_tree}
use Rattle.c_ast.specs.Tree.{Tree}
use Rattle.c_parse.specs.declared.declaration.Inits.{Inits}
use Rattle.c_parse.specs.declared.statement.IfThen.{IfThen}

-- initialisers between braces
abbrev pub inits_tree : Inits → Tree
inits_tree x = ended_by (inits init_tree x.first x.more) x.comma

-- the production that goes on after them
abbrev pub more_of : Option Span → Production
more_of None = production.InitComma
more_of (Some comma) = production.InitNext

abbrev pub more_production : Inits → Production
more_production x = more_of x.comma

-- an `if` and its first statement
abbrev pub if_tree : IfThen → Tree
if_tree x =
    node production.If (word w.If x.keyword ∷ mark m.LParen x.opening ∷ list_tree x.condition ∷ mark m.RParen x.closing ∷ stmt_tree x.then ∷ [])
