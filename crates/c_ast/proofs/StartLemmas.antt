-- The offset of the first token of a tree.
use Rattle.std.proofs.Common.{◌≡◌, ℕ, Bool, List, [], ◌∷◌, ◌++◌, Option, Some, None, refl, ◌∙◌, ap}
use Rattle.c_lex.specs.declared.token.Token.{Token}
use Rattle.c_ast.specs.declared.declaration.Init.{Init}
use Rattle.c_ast.specs.declared.declaration.Init.TheVariants as init
use Rattle.c_ast.specs.declared.expression.Expr.{Expr}
use Rattle.c_ast.specs.declared.expression.Expr.TheVariants as e
use Rattle.c_ast.specs.declared.expression.ExprList.{ExprList}
use Rattle.c_ast.specs.declared.expression.Literal.{Literal}
use Rattle.c_ast.specs.declared.expression.TypeName.{TypeName}
use Rattle.c_ast.specs.declared.external.Param.{Param}
use Rattle.c_ast.specs.declared.external.Specifiers.{Specifiers}
use Rattle.c_ast.specs.declared.list.Next.{Next}
use Rattle.c_ast.specs.declared.operator.AssignOp.{AssignOp}
use Rattle.c_ast.specs.declared.operator.BinaryOp.{BinaryOp}
use Rattle.c_ast.specs.declared.operator.IncDec.{IncDec}
use Rattle.c_ast.specs.declared.operator.Selection.{Selection}
use Rattle.c_ast.specs.declared.operator.UnaryOp.{UnaryOp}
use Rattle.c_ast.specs.declared.specifier.Spec.{Spec}
use Rattle.c_ast.specs.declared.specifier.Spec.TheVariants as spec
use Rattle.c_ast.specs.declared.token.Identifier.{Identifier}
use Rattle.c_ast.specs.declared.token.Span.{Span}
use Rattle.c_ast.specs.Declarations.{init_tree}
use Rattle.c_ast.specs.Expressions.{expr_tree, list_tree, list_children}
use Rattle.c_ast.specs.Externals.{param, specified, plain_with}
use Rattle.c_ast.specs.Productions.{Production}
use Rattle.c_ast.specs.Productions as production
use Rattle.c_ast.specs.Specifiers.{spec_tree}
use Rattle.c_ast.specs.Spelling.{spelled, first_offset, start_of}
use Rattle.c_ast.specs.Tree.{Tree, Node, Nil, Cons}
use Rattle.c_ast.proofs.lemmas.ExprViews.{tree-Name, tree-Number, tree-Char, tree-Text, tree-Paren, tree-Increment, tree-Unary, tree-Sizeof, tree-SizeofType, tree-Cast, tree-Index, tree-Call, tree-Select, tree-PostIncrement, tree-Binary, tree-Conditional, tree-Assign}
use Rattle.c_ast.proofs.lemmas.InitViews.{tree-Value, tree-List}
use Rattle.c_ast.proofs.lemmas.Spelling.{spelled_append}

first_append : (xs ys : List Token) (n : ℕ) → first_offset xs ≡ Some n → first_offset (xs ++ ys) ≡ Some n
first_append [] ys n h = cc h
first_append (x ∷ xs) ys n h = h

-- the tokens of a tree, before others
first_of_tree : (t : Tree) (more : List Token) (n : ℕ) → start_of t ≡ Some n → first_offset (spelled t more) ≡ Some n
first_of_tree t more n h = ap first_offset (spelled_append t more) ∙ first_append (spelled t []) more n h

-- a node that begins with a tree
first_child : (l : Production) (t children : Tree) (n : ℕ) → start_of t ≡ Some n → start_of (Node l (Cons t children)) ≡ Some n
unfolding spelled
first_child l t children n h = first_of_tree t (spelled children []) n h

pub start-Name : (i : Identifier) → start_of (expr_tree (e.Name i)) ≡ Some i.span.at
unfolding spelled
start-Name i = ap start_of (tree-Name i)

pub start-Number : (value : ℕ) (unsigned : Bool) (span : Span) → start_of (expr_tree (e.Number value unsigned span)) ≡ Some span.at
unfolding spelled
start-Number value unsigned span = ap start_of (tree-Number value unsigned span)

pub start-Char : (value : ℕ) (span : Span) → start_of (expr_tree (e.Char value span)) ≡ Some span.at
unfolding spelled
start-Char value span = ap start_of (tree-Char value span)

pub start-Text : (x : Literal) (xs : List Literal) → start_of (expr_tree (e.Text x xs)) ≡ Some x.span.at
unfolding spelled
start-Text x xs = ap start_of (tree-Text x xs)

pub start-Paren : (a : Span) (i : ExprList) (b : Span) → start_of (expr_tree (e.Paren a i b)) ≡ Some a.at
unfolding spelled
start-Paren a i b = ap start_of (tree-Paren a i b)

pub start-Increment : (by : IncDec) (a : Span) (x : Expr) → start_of (expr_tree (e.Increment by a x)) ≡ Some a.at
unfolding spelled
start-Increment by a x = ap start_of (tree-Increment by a x)

pub start-Unary : (op : UnaryOp) (a : Span) (x : Expr) → start_of (expr_tree (e.Unary op a x)) ≡ Some a.at
unfolding spelled
start-Unary op a x = ap start_of (tree-Unary op a x)

pub start-Sizeof : (a : Span) (x : Expr) → start_of (expr_tree (e.Sizeof a x)) ≡ Some a.at
unfolding spelled
start-Sizeof a x = ap start_of (tree-Sizeof a x)

pub start-SizeofType : (k a : Span) (i : TypeName) (b : Span) → start_of (expr_tree (e.SizeofType k a i b)) ≡ Some k.at
unfolding spelled
start-SizeofType k a i b = ap start_of (tree-SizeofType k a i b)

pub start-Cast : (a : Span) (i : TypeName) (b : Span) (x : Expr) → start_of (expr_tree (e.Cast a i b x)) ≡ Some a.at
unfolding spelled
start-Cast a i b x = ap start_of (tree-Cast a i b x)

pub start-Index : (x : Expr) (a : Span) (i : ExprList) (b : Span) (n : ℕ) → start_of (expr_tree x) ≡ Some n → start_of (expr_tree (e.Index x a i b)) ≡ Some n
start-Index x a i b n h = ap start_of (tree-Index x a i b) ∙ first_child _ (expr_tree x) _ n h

pub start-Call : (x : Expr) (a : Span) (i : Option ExprList) (b : Span) (n : ℕ) → start_of (expr_tree x) ≡ Some n → start_of (expr_tree (e.Call x a i b)) ≡ Some n
start-Call x a i b n h = ap start_of (tree-Call x a i b) ∙ first_child _ (expr_tree x) _ n h

pub start-Select : (x : Expr) (by : Selection) (a : Span) (i : Identifier) (n : ℕ) → start_of (expr_tree x) ≡ Some n → start_of (expr_tree (e.Select x by a i)) ≡ Some n
start-Select x by a i n h = ap start_of (tree-Select x by a i) ∙ first_child _ (expr_tree x) _ n h

pub start-PostIncrement : (x : Expr) (by : IncDec) (a : Span) (n : ℕ) → start_of (expr_tree x) ≡ Some n → start_of (expr_tree (e.PostIncrement x by a)) ≡ Some n
start-PostIncrement x by a n h = ap start_of (tree-PostIncrement x by a) ∙ first_child _ (expr_tree x) _ n h

pub start-Binary : (x : Expr) (op : BinaryOp) (a : Span) (y : Expr) (n : ℕ) → start_of (expr_tree x) ≡ Some n → start_of (expr_tree (e.Binary x op a y)) ≡ Some n
start-Binary x op a y n h = ap start_of (tree-Binary x op a y) ∙ first_child _ (expr_tree x) _ n h

pub start-Conditional : (x : Expr) (a : Span) (i : ExprList) (b : Span) (y : Expr) (n : ℕ) → start_of (expr_tree x) ≡ Some n → start_of (expr_tree (e.Conditional x a i b y)) ≡ Some n
start-Conditional x a i b y n h = ap start_of (tree-Conditional x a i b y) ∙ first_child _ (expr_tree x) _ n h

pub start-Assign : (x : Expr) (op : AssignOp) (a : Span) (y : Expr) (n : ℕ) → start_of (expr_tree x) ≡ Some n → start_of (expr_tree (e.Assign x op a y)) ≡ Some n
start-Assign x op a y n h = ap start_of (tree-Assign x op a y) ∙ first_child _ (expr_tree x) _ n h

-- each variant of an expression
pub ruleset expr_starts = (
  start-Name,
  start-Number,
  start-Char,
  start-Text,
  start-Paren,
  start-Increment,
  start-Unary,
  start-Sizeof,
  start-SizeofType,
  start-Cast,
  start-Index,
  start-Call,
  start-Select,
  start-PostIncrement,
  start-Binary,
  start-Conditional,
  start-Assign,
)

pub start-list : (x : ExprList) (n : ℕ) → start_of (expr_tree x.first) ≡ Some n → start_of (list_tree x) ≡ Some n
unfolding list_children
start-list x n h = first_child _ (expr_tree x.first) _ n h

pub start-Value : (x : Expr) (n : ℕ) → start_of (expr_tree x) ≡ Some n → start_of (init_tree (init.Value x)) ≡ Some n
start-Value x n h = ap start_of (tree-Value x) ∙ h

pub start-List : (a : Span) (x : Init) (xs : List (Next Init)) (comma : Option Span) (b : Span) →
    start_of (init_tree (init.List a x xs comma b)) ≡ Some a.at
unfolding spelled
start-List a x xs comma b = ap start_of (tree-List a x xs comma b)

pub start-param : (x : Param) (n : ℕ) → x.qualifier ≡ None → start_of (spec_tree x.spec) ≡ Some n → start_of (param x) ≡ Some n
unfolding param spelled
start-param x n e h = rw e (first_of_tree (spec_tree x.spec) _ n h)

pub start-const_param : (x : Param) (a : Span) → x.qualifier ≡ Some a → start_of (param x) ≡ Some a.at
unfolding param spelled
start-const_param x a e = rw e refl

-- declaration specifiers before any tree
pub start-specified : (x : Specifiers) (n : ℕ) → x.storage ≡ None → x.qualifier ≡ None → start_of (spec_tree x.spec) ≡ Some n → (rest : Tree) → start_of (specified x rest) ≡ Some n
unfolding specified spelled
start-specified x n d e h rest = rw (d, e) (plain x.spec h)
  where
    plain : (s : Spec) → start_of (spec_tree s) ≡ Some n → start_of (plain_with s rest) ≡ Some n
    plain (spec.Void a) h = h
    plain (spec.Plain b) h = first_child production.Plain (spec_tree (spec.Plain b)) (Cons rest Nil) n h
    plain (spec.Struct k t) h = h
    plain (spec.Signed s a b) h = h

pub start-const : (x : Specifiers) (a : Span) → x.storage ≡ None → x.qualifier ≡ Some a → (rest : Tree) → start_of (specified x rest) ≡ Some a.at
unfolding specified spelled
start-const x a d e rest = rw (d, e) refl

pub start-static : (x : Specifiers) (a : Span) → x.storage ≡ Some a → (rest : Tree) → start_of (specified x rest) ≡ Some a.at
unfolding specified spelled
start-static x a d rest = rw d refl

pub ruleset starts = (expr_starts, start-list, start-Value, start-List, start-param, start-const_param, start-specified, start-const, start-static)
