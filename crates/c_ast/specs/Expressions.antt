-- Expressions as plain trees.
use Rattle.std.specs.Prelude.{List, [], ◌∷◌}
use Rattle.c_lex.specs.declared.keyword.Keyword.TheVariants as w
use Rattle.c_lex.specs.declared.punct.Punct.TheVariants as m
use Rattle.c_lex.specs.declared.token.TokenKind.TheVariants as kind
use Rattle.c_ast.specs.declared.expression.Expr.{Expr}
use Rattle.c_ast.specs.declared.expression.Expr.TheFolds.{fold-Expr}
use Rattle.c_ast.specs.declared.expression.Expr.TheOpen.{Expr-F, ExprList-F, Dimension-F, TypeName-F}
use Rattle.c_ast.specs.declared.expression.ExprList.{ExprList}
use Rattle.c_ast.specs.declared.expression.Dimension.{Dimension}
use Rattle.c_ast.specs.declared.expression.TypeName.{TypeName, out-TypeName}
use Rattle.c_ast.specs.declared.expression.Literal.{Literal}
use Rattle.c_ast.specs.declared.list.Next.{Next}
use Rattle.c_ast.specs.Productions as l
use Rattle.c_ast.specs.Tree.{Tree}
use Rattle.c_ast.specs.Operators.{selection_production, selection_mark, inc_dec_mark, unary_mark, binary_mark, binary_level, assign_mark}
use Rattle.c_ast.specs.Nodes.{node, leaf, mark, word, name, many, opt}
use Rattle.c_ast.specs.Specifiers.{spec_tree, constant, stars}

abbrev pub literal : Literal → Tree
literal x = leaf (kind.Text x.bytes) x.span

-- string literals
abbrev pub texts : List Literal → Tree
texts xs = many l.MoreLiterals (λ x. literal x ∷ []) xs

-- an element after a comma
abbrev pub next : {X : Type 0} → (X → Tree) → Next X → List Tree
next view x = mark m.Comma x.comma ∷ view x.element ∷ []

-- A layer of an expression, whose operands are trees, whose lists have their children, and whose type names are trees.
abbrev pub expr_step : Expr-F Tree (List Tree) (List Tree) Tree → Tree
expr_step (Expr-F.Name i) = node l.Name (name i ∷ [])
expr_step (Expr-F.Number value unsigned span) = node l.Number (leaf (kind.Number value unsigned) span ∷ [])
expr_step (Expr-F.Char value span) = node l.Character (leaf (kind.Char value) span ∷ [])
expr_step (Expr-F.Text first more) =
    node l.Text (literal first ∷ texts more ∷ [])
expr_step (Expr-F.Paren opening inner closing) =
    node l.Paren (mark m.LParen opening ∷ node l.Expr inner ∷ mark m.RParen closing ∷ [])
expr_step (Expr-F.Index array opening index closing) =
    node l.Index (array ∷ mark m.LBracket opening ∷ node l.Expr index ∷ mark m.RBracket closing ∷ [])
expr_step (Expr-F.Call function opening arguments closing) =
    node l.Call (function ∷ mark m.LParen opening ∷ opt l.Arguments (λ x. x) arguments ∷ mark m.RParen closing ∷ [])
expr_step (Expr-F.Select object selected span member) =
    node (selection_production selected) (object ∷ mark (selection_mark selected) span ∷ name member ∷ [])
expr_step (Expr-F.PostIncrement operand by span) = node l.PostIncrement (operand ∷ mark (inc_dec_mark by) span ∷ [])
expr_step (Expr-F.Increment by span operand) = node l.Increment (mark (inc_dec_mark by) span ∷ operand ∷ [])
expr_step (Expr-F.Unary op span operand) = node l.Unary (mark (unary_mark op) span ∷ operand ∷ [])
expr_step (Expr-F.Sizeof keyword operand) = node l.Sizeof (word w.Sizeof keyword ∷ operand ∷ [])
expr_step (Expr-F.SizeofType keyword opening operand closing) =
    node l.Sizeof (word w.Sizeof keyword ∷ node l.SizeofType (mark m.LParen opening ∷ operand ∷ mark m.RParen closing ∷ []) ∷ [])
expr_step (Expr-F.Cast opening target closing operand) =
    node l.Cast (mark m.LParen opening ∷ target ∷ mark m.RParen closing ∷ operand ∷ [])
expr_step (Expr-F.Binary left op span right) =
    node (l.Binary (binary_level op)) (left ∷ mark (binary_mark op) span ∷ right ∷ [])
expr_step (Expr-F.Conditional condition question then colon otherwise) =
    node l.Conditional (condition ∷ mark m.Question question ∷ node l.Expr then ∷ mark m.Colon colon ∷ otherwise ∷ [])
expr_step (Expr-F.Assign target op span value) = node l.Assignment (target ∷ mark (assign_mark op) span ∷ value ∷ [])

abbrev pub list_step : ExprList-F Tree (List Tree) (List Tree) Tree → List Tree
list_step x = x.first ∷ many l.MoreAssigns (next (λ t. t)) x.more ∷ []

abbrev pub dimension_step : Dimension-F Tree (List Tree) (List Tree) Tree → List Tree
dimension_step x = mark m.LBracket x.open ∷ x.size ∷ mark m.RBracket x.close ∷ []

abbrev pub type_step : TypeName-F Tree (List Tree) (List Tree) Tree → Tree
type_step x =
    node l.TypeName (constant x.qualifier ∷ spec_tree x.spec ∷ stars x.stars ∷ many l.Dimensions (λ d. d) x.dimensions ∷ [])

-- an expression without commas
unfoldable pub expr_tree : Expr → Tree
expr_tree = fold-Expr Tree (List Tree) (List Tree) Tree expr_step dimension_step list_step type_step

-- the expressions of a list, as children
unfoldable pub list_children : ExprList → List Tree
list_children x = expr_tree x.first ∷ many l.MoreAssigns (next expr_tree) x.more ∷ []

-- a comma expression
abbrev pub list_tree : ExprList → Tree
list_tree x = node l.Expr (list_children x)

unfoldable pub dimension_children : Dimension → List Tree
dimension_children x = mark m.LBracket x.open ∷ expr_tree x.size ∷ mark m.RBracket x.close ∷ []

-- dimensions
abbrev pub dimensions : List Dimension → Tree
dimensions xs = many l.Dimensions dimension_children xs

unfoldable pub type_tree : TypeName → Tree
type_tree x =
    let named = out-TypeName x in
    node l.TypeName (constant named.qualifier ∷ spec_tree named.spec ∷ stars named.stars ∷ dimensions named.dimensions ∷ [])
