-- One equation for each variant of an expression.
use Rattle.std.proofs.Common.{◌≡◌, ℕ, Bool, List, [], ◌∷◌, Option, Some, None, refl, sym, ◌∙◌, ap}
use Rattle.c_lex.specs.declared.keyword.Keyword.TheVariants as w
use Rattle.c_lex.specs.declared.punct.Punct.TheVariants as m
use Rattle.c_lex.specs.declared.token.TokenKind.TheVariants as kind
use Rattle.c_ast.specs.declared.operator.AssignOp.{AssignOp}
use Rattle.c_ast.specs.declared.operator.BinaryOp.{BinaryOp}
use Rattle.c_ast.specs.declared.expression.Dimension.{Dimension}
use Rattle.c_ast.specs.declared.expression.Expr.{Expr, roll-Expr}
use Rattle.c_ast.specs.declared.expression.Expr.TheVariants as e
use Rattle.c_ast.specs.declared.expression.Expr.TheFolds.{fold-roll-Expr, map-Expr, fold-ExprList, fold-Dimension, fold-TypeName, fold_out-Dimension, fold_out-ExprList, fold_out-TypeName}
use Rattle.c_ast.specs.declared.expression.Expr.TheOpen.{Expr-F}
use Rattle.c_ast.specs.declared.expression.ExprList.{ExprList}
use Rattle.c_ast.specs.declared.expression.Literal.{Literal}
use Rattle.c_ast.specs.declared.operator.Selection.{Selection}
use Rattle.c_ast.specs.declared.operator.IncDec.{IncDec}
use Rattle.c_ast.specs.declared.expression.TypeName.{TypeName, out-TypeName}
use Rattle.c_ast.specs.declared.operator.UnaryOp.{UnaryOp}
use Rattle.c_ast.specs.declared.token.Identifier.{Identifier}
use Rattle.c_ast.specs.declared.token.Span.{Span}
use Rattle.c_ast.specs.Productions as l
use Rattle.c_ast.specs.Tree.{Tree}
use Rattle.c_ast.specs.Operators.{selection_production, selection_mark, inc_dec_mark, unary_mark, binary_mark, binary_level, assign_mark}
use Rattle.c_ast.specs.Nodes.{node, leaf, name, mark, word, opt}
use Rattle.c_ast.specs.Specifiers.{constant, spec_tree, stars}
use Rattle.c_ast.specs.Expressions.{expr_tree, type_tree, list_children, list_tree, dimension_children, next, literal, texts, expr_step, dimension_step, list_step, type_step}
use Rattle.c_ast.proofs.lemmas.Lists.{many-map}

abbrev Layer : Type 0
Layer = Expr-F Expr Dimension ExprList TypeName

abbrev of_list : ExprList → List Tree
of_list = fold-ExprList Tree (List Tree) (List Tree) Tree expr_step dimension_step list_step type_step

abbrev of_dimension : Dimension → List Tree
of_dimension = fold-Dimension Tree (List Tree) (List Tree) Tree expr_step dimension_step list_step type_step

abbrev of_type : TypeName → Tree
of_type = fold-TypeName Tree (List Tree) (List Tree) Tree expr_step dimension_step list_step type_step

of_list_is : (i : ExprList) → of_list i ≡ list_children i
unfolding expr_tree list_children
of_list_is i = fold_out-ExprList Tree (List Tree) (List Tree) Tree expr_step dimension_step list_step type_step i ∙ ap (λ (t : Tree). expr_tree i.first ∷ t ∷
    []) (many-map l.MoreAssigns (next (λ t. t)) _ (next expr_tree) (λ x. refl) i.more)

of_dimension_is : (i : Dimension) → of_dimension i ≡ dimension_children i
unfolding expr_tree dimension_children
of_dimension_is i = fold_out-Dimension Tree (List Tree) (List Tree) Tree expr_step dimension_step list_step type_step i ∙ refl

of_type_is : (i : TypeName) → of_type i ≡ type_tree i
unfolding expr_tree type_tree
of_type_is i =
    let named = out-TypeName i in
    fold_out-TypeName Tree (List Tree) (List Tree) Tree expr_step dimension_step list_step type_step i
    ∙ ap (λ (t : Tree). node l.TypeName (constant named.qualifier ∷ spec_tree named.spec ∷ stars named.stars ∷ t ∷
    [])) (many-map l.Dimensions (λ d. d) of_dimension dimension_children of_dimension_is named.dimensions)

-- one layer
layer : (d : Layer) → expr_tree (roll-Expr d) ≡ expr_step (map-Expr _ _ _ _ _ _ _ _ expr_tree of_dimension of_list of_type d)
unfolding expr_tree
layer d = fold-roll-Expr Tree (List Tree) (List Tree) Tree expr_step dimension_step list_step type_step d

pub tree-Name : (i : Identifier) → expr_tree (e.Name i) ≡ node l.Name (name i ∷ [])
tree-Name i =
    ap expr_tree (sym (e.rolls-Name i)) ∙ layer (Expr-F.Name i)

pub tree-Number : (value : ℕ) (unsigned : Bool) (span : Span) → expr_tree (e.Number value unsigned span) ≡ node l.Number (leaf (kind.Number value unsigned) span ∷ [])
tree-Number value unsigned span =
    ap expr_tree (sym (e.rolls-Number value unsigned span)) ∙ layer (Expr-F.Number value unsigned span)

pub tree-Char : (value : ℕ) (span : Span) → expr_tree (e.Char value span) ≡ node l.Character (leaf (kind.Char value) span ∷ [])
tree-Char value span =
    ap expr_tree (sym (e.rolls-Char value span)) ∙ layer (Expr-F.Char value span)

pub tree-Text : (x : Literal) (xs : List Literal) → expr_tree (e.Text x xs) ≡ node l.Text (literal x ∷ texts xs ∷ [])
tree-Text x xs =
    ap expr_tree (sym (e.rolls-Text x xs)) ∙ layer (Expr-F.Text x xs)

pub tree-Paren : (a : Span) (i : ExprList) (b : Span) → expr_tree (e.Paren a i b) ≡ node l.Paren (mark m.LParen a ∷ list_tree i ∷ mark m.RParen b ∷ [])
tree-Paren a i b =
    ap expr_tree (sym (e.rolls-Paren a i b)) ∙ layer (Expr-F.Paren a i b)
    ∙ ap (λ (p : List Tree). node l.Paren (mark m.LParen a ∷ node l.Expr p ∷ mark m.RParen b ∷ [])) (of_list_is i)

pub tree-Index : (x : Expr) (a : Span) (i : ExprList) (b : Span) → expr_tree (e.Index x a i b) ≡ node l.Index (expr_tree x ∷ mark m.LBracket a ∷ list_tree i ∷ mark m.RBracket b ∷ [])
tree-Index x a i b =
    ap expr_tree (sym (e.rolls-Index x a i b)) ∙ layer (Expr-F.Index x a i b)
    ∙ ap (λ (p : List Tree). node l.Index (expr_tree x ∷ mark m.LBracket a ∷ node l.Expr p ∷ mark m.RBracket b ∷ [])) (of_list_is i)

pub tree-Call : (x : Expr) (a : Span) (i : Option ExprList) (b : Span) → expr_tree (e.Call x a i b) ≡ node l.Call (expr_tree x ∷ mark m.LParen a ∷ opt l.Arguments list_children i ∷ mark m.RParen b ∷
    [])
tree-Call x a None b = ap expr_tree (sym (e.rolls-Call x a None b)) ∙ layer (Expr-F.Call x a None b)
tree-Call x a (Some i) b =
    ap expr_tree (sym (e.rolls-Call x a (Some i) b)) ∙ layer (Expr-F.Call x a (Some i) b)
    ∙ ap (λ (p : List Tree). node l.Call (expr_tree x ∷ mark m.LParen a ∷ node (l.Present l.Arguments) p ∷ mark m.RParen b ∷ [])) (of_list_is i)

pub tree-Select : (x : Expr) (by : Selection) (a : Span) (i : Identifier) → expr_tree (e.Select x by a i) ≡ node (selection_production by) (expr_tree x ∷ mark (selection_mark by) a ∷ name i ∷ [])
tree-Select x by a i =
    ap expr_tree (sym (e.rolls-Select x by a i)) ∙ layer (Expr-F.Select x by a i)

pub tree-PostIncrement : (x : Expr) (by : IncDec) (a : Span) → expr_tree (e.PostIncrement x by a) ≡ node l.PostIncrement (expr_tree x ∷ mark (inc_dec_mark by) a ∷ [])
tree-PostIncrement x by a =
    ap expr_tree (sym (e.rolls-PostIncrement x by a)) ∙ layer (Expr-F.PostIncrement x by a)

pub tree-Increment : (by : IncDec) (a : Span) (x : Expr) → expr_tree (e.Increment by a x) ≡ node l.Increment (mark (inc_dec_mark by) a ∷ expr_tree x ∷ [])
tree-Increment by a x =
    ap expr_tree (sym (e.rolls-Increment by a x)) ∙ layer (Expr-F.Increment by a x)

pub tree-Unary : (op : UnaryOp) (a : Span) (x : Expr) → expr_tree (e.Unary op a x) ≡ node l.Unary (mark (unary_mark op) a ∷ expr_tree x ∷ [])
tree-Unary op a x =
    ap expr_tree (sym (e.rolls-Unary op a x)) ∙ layer (Expr-F.Unary op a x)

pub tree-Sizeof : (a : Span) (x : Expr) → expr_tree (e.Sizeof a x) ≡ node l.Sizeof (word w.Sizeof a ∷ expr_tree x ∷ [])
tree-Sizeof a x =
    ap expr_tree (sym (e.rolls-Sizeof a x)) ∙ layer (Expr-F.Sizeof a x)

pub tree-SizeofType : (k a : Span) (i : TypeName) (b : Span) → expr_tree (e.SizeofType k a i b) ≡ node l.Sizeof (word w.Sizeof k ∷ node l.SizeofType (mark m.LParen a ∷ type_tree i ∷
    mark m.RParen b ∷ []) ∷ [])
tree-SizeofType k a i b =
    ap expr_tree (sym (e.rolls-SizeofType k a i b)) ∙ layer (Expr-F.SizeofType k a i b)
    ∙ ap (λ (t : Tree). node l.Sizeof (word w.Sizeof k ∷ node l.SizeofType (mark m.LParen a ∷ t ∷ mark m.RParen b ∷ []) ∷ [])) (of_type_is i)

pub tree-Cast : (a : Span) (i : TypeName) (b : Span) (x : Expr) → expr_tree (e.Cast a i b x) ≡ node l.Cast (mark m.LParen a ∷ type_tree i ∷ mark m.RParen b ∷ expr_tree x ∷ [])
tree-Cast a i b x =
    ap expr_tree (sym (e.rolls-Cast a i b x)) ∙ layer (Expr-F.Cast a i b x)
    ∙ ap (λ (t : Tree). node l.Cast (mark m.LParen a ∷ t ∷ mark m.RParen b ∷ expr_tree x ∷ [])) (of_type_is i)

pub tree-Binary : (x : Expr) (op : BinaryOp) (a : Span) (y : Expr) → expr_tree (e.Binary x op a y) ≡ node (l.Binary (binary_level op)) (expr_tree x ∷ mark (binary_mark op) a ∷ expr_tree y ∷ [])
tree-Binary x op a y =
    ap expr_tree (sym (e.rolls-Binary x op a y)) ∙ layer (Expr-F.Binary x op a y)

pub tree-Conditional : (x : Expr) (a : Span) (i : ExprList) (b : Span) (y : Expr) → expr_tree (e.Conditional x a i b y) ≡ node l.Conditional (expr_tree x ∷ mark m.Question a ∷ list_tree i ∷
    mark m.Colon b ∷ expr_tree y ∷ [])
tree-Conditional x a i b y =
    ap expr_tree (sym (e.rolls-Conditional x a i b y)) ∙ layer (Expr-F.Conditional x a i b y)
    ∙ ap (λ (p : List Tree). node l.Conditional (expr_tree x ∷ mark m.Question a ∷ node l.Expr p ∷ mark m.Colon b ∷ expr_tree y ∷ [])) (of_list_is i)

pub tree-Assign : (x : Expr) (op : AssignOp) (a : Span) (y : Expr) → expr_tree (e.Assign x op a y) ≡ node l.Assignment (expr_tree x ∷ mark (assign_mark op) a ∷ expr_tree y ∷ [])
tree-Assign x op a y =
    ap expr_tree (sym (e.rolls-Assign x op a y)) ∙ layer (Expr-F.Assign x op a y)

-- each variant
pub ruleset expr_views = (
  tree-Name,
  tree-Number,
  tree-Char,
  tree-Text,
  tree-Paren,
  tree-Index,
  tree-Call,
  tree-Select,
  tree-PostIncrement,
  tree-Increment,
  tree-Unary,
  tree-Sizeof,
  tree-SizeofType,
  tree-Cast,
  tree-Binary,
  tree-Conditional,
  tree-Assign,
)
