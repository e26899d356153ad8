-- Declarations as plain trees.
use Rattle.std.specs.Prelude.{List, [], ◌∷◌, fold, Option, Some, None}
use Rattle.c_lex.specs.declared.punct.Punct.TheVariants as m
use Rattle.c_ast.specs.declared.declaration.Declarator.{Declarator}
use Rattle.c_ast.specs.declared.declaration.Init.{Init}
use Rattle.c_ast.specs.declared.declaration.Init.TheFolds.{fold-Init}
use Rattle.c_ast.specs.declared.declaration.Init.TheOpen.{Init-F}
use Rattle.c_ast.specs.declared.declaration.Initializer.{Initializer}
use Rattle.c_ast.specs.declared.declaration.Locals.{Locals}
use Rattle.c_ast.specs.declared.declaration.OpenDimension.{OpenDimension}
use Rattle.c_ast.specs.declared.list.Next.{Next}
use Rattle.c_ast.specs.declared.token.Span.{Span}
use Rattle.c_ast.specs.Productions as l
use Rattle.c_ast.specs.Tree.{Tree}
use Rattle.c_ast.specs.Nodes.{node, mark, name, many, opt}
use Rattle.c_ast.specs.Specifiers.{spec_tree, constant, stars}
use Rattle.c_ast.specs.Expressions.{expr_tree, next}

-- initialisers and a comma; an initialiser more; a comma after the last, where one is written
abbrev pub comma_after : Tree → Span → Tree
comma_after before comma = node l.InitComma (before ∷ mark m.Comma comma ∷ [])

abbrev pub init_after : {X : Type 0} → (X → Tree) → Tree → Next X → Tree
init_after view before x = node l.InitNext (comma_after before x.comma ∷ view x.element ∷ [])

abbrev pub ended_by : Tree → Option Span → Tree
ended_by before None = before
ended_by before (Some comma) = comma_after before comma

unfoldable pub inits : {X : Type 0} → (X → Tree) → X → List (Next X) → Tree
inits view first more = fold (init_after view) (node l.InitFirst (view first ∷ [])) more

abbrev pub init_step : Init-F Tree → Tree
init_step (Init-F.Value x) = expr_tree x
init_step (Init-F.List opening first more comma closing) =
    node l.InitList (mark m.LBrace opening ∷ ended_by (inits (λ t. t) first more) comma ∷ mark m.RBrace closing ∷ [])

unfoldable pub init_tree : Init → Tree
init_tree = fold-Init Tree init_step

abbrev pub open_dimension : OpenDimension → List Tree
open_dimension x =
    mark m.LBracket x.open ∷ opt l.Size (λ size. expr_tree size ∷ []) x.size ∷ mark m.RBracket x.close ∷ []

abbrev pub open_dimensions : List OpenDimension → Tree
open_dimensions xs = many l.OpenDimensions open_dimension xs

abbrev pub initializer : Option Initializer → Tree
initializer x = opt l.Initialiser (λ i. mark m.Equal i.equal ∷ init_tree i.init ∷ []) x

unfoldable pub declarator : Declarator → Tree
declarator x =
    node l.Decl (stars x.stars ∷ name x.name ∷ open_dimensions x.dimensions ∷ initializer x.initializer ∷ [])

abbrev pub more_declarators : List (Next Declarator) → Tree
more_declarators xs = many l.MoreDecls (next declarator) xs

unfoldable pub locals_tree : Locals → Tree
locals_tree x =
    node l.Locals (constant x.qualifier ∷ spec_tree x.spec ∷ declarator x.first ∷ more_declarators x.more ∷ mark m.Semicolon x.semicolon ∷ [])
