-- What the definition says of each variant of an expression.
use Rattle.std.proofs.Common.{◌≡◌, ℕ, Bool, true, false, List, ◌++◌, Option, ap, sym, ◌∙◌}
use Rattle.std.specs.Option.{option_map}
use Rattle.c_lex.specs.declared.keyword.Keyword.TheVariants as w
use Rattle.c_lex.specs.declared.token.TokenKind.TheVariants as kind
use Rattle.c_ast.specs.declared.expression.Expr.{Expr}
use Rattle.c_ast.specs.declared.expression.Expr.TheVariants as e
use Rattle.c_ast.specs.declared.expression.ExprList.{ExprList}
use Rattle.c_ast.specs.declared.expression.Literal.{Literal}
use Rattle.c_ast.specs.declared.expression.TypeName.{TypeName}
use Rattle.c_ast.specs.declared.operator.AssignOp.{AssignOp}
use Rattle.c_ast.specs.declared.operator.BinaryOp.{BinaryOp}
use Rattle.c_ast.specs.declared.operator.IncDec.{IncDec}
use Rattle.c_ast.specs.declared.operator.Selection.{Selection}
use Rattle.c_ast.specs.declared.operator.Selection.TheVariants as selection
use Rattle.c_ast.specs.declared.operator.UnaryOp.{UnaryOp}
use Rattle.c_ast.specs.declared.token.Identifier.{Identifier}
use Rattle.c_ast.specs.declared.token.Span.{Span}
use Rattle.c_ast.specs.Nodes.{opt, word}
use Rattle.c_ast.specs.Tree.{Nil}
use Rattle.c_ast.specs.Operators.{selection_production}
use Rattle.c_ast.specs.Productions as l
use Rattle.c_ast.specs.Expressions.{expr_tree, type_tree, list_children, list_tree, texts}
use Rattle.c_ast.proofs.lemmas.ExprViews.{tree-Name, tree-Number, tree-Char, tree-Text, tree-Paren, tree-Increment, tree-Unary, tree-Sizeof, tree-SizeofType, tree-Cast, tree-Index, tree-Call, tree-Select, tree-PostIncrement, tree-Binary, tree-Conditional, tree-Assign}
use Rattle.c_ast.proofs.lemmas.Operators.{selection_of-mark, inc_dec_of-mark, unary_of-mark, binary_of-mark, assign_of-mark}
use Rattle.c_check_def.specs.OperandValues.{operand_type}
use Rattle.c_check_def.specs.State.{State, after, if_some}
use Rattle.c_check_def.specs.declared.call.Called.{Called}
use Rattle.c_check_def.specs.Operands.{Term, named, constant_by, string, indexed, selected, stepped, unary, measured, cast, binary, conditional, assigned}
use Rattle.c_check_def.specs.Calls.{called}
use Rattle.c_check_def.specs.Expressions.{more_characters, expression, expressions, arguments, type_name}
use Rattle.c_check_expression.specs.Called.{called_of}
use Rattle.c_check_expression.proofs.ShapeLemmas.{call_is, sizeof_is}

pub arm_name : (i : Identifier) (s : State) → expression (expr_tree (e.Name i)) s ≡ named i.name i.span.at s
arm_name i s = ap (λ t. expression t s) (tree-Name i)

pub arm_number : (value : ℕ) (unsigned : Bool) (span : Span) (s : State) → expression (expr_tree (e.Number value unsigned span)) s ≡ (constant_by (kind.Number value unsigned), s)
arm_number value unsigned span s = ap (λ t. expression t s) (tree-Number value unsigned span)

pub arm_char : (value : ℕ) (span : Span) (s : State) → expression (expr_tree (e.Char value span)) s ≡ (constant_by (kind.Char value), s)
arm_char value span s = ap (λ t. expression t s) (tree-Char value span)

pub arm_text : (x : Literal) (xs : List Literal) (s : State) → expression (expr_tree (e.Text x xs)) s ≡ string x.span.at (x.bytes ++ more_characters (texts xs)) s
arm_text x xs s = ap (λ t. expression t s) (tree-Text x xs)

pub arm_paren : (a : Span) (i : ExprList) (b : Span) (s : State) → expression (expr_tree (e.Paren a i b)) s ≡ expressions (list_tree i) s
arm_paren a i b s = ap (λ t. expression t s) (tree-Paren a i b)

pub arm_index : (x : Expr) (a : Span) (i : ExprList) (b : Span) (s : State) →
    expression (expr_tree (e.Index x a i b)) s ≡ after (expression (expr_tree x) s) (λ y. λ s. after (expressions (list_tree i) s) (indexed a.at y))
arm_index x a i b s = ap (λ t. expression t s) (tree-Index x a i b)

pub arm_call : (x : Expr) (a : Span) (i : Option ExprList) (b : Span) (s : State) →
    expression (expr_tree (e.Call x a i b)) s ≡ after (called_of (expr_tree x) s) (λ f. λ s. after (arguments (opt l.Arguments list_children i) s) (called a.at f))
arm_call x a i b s = ap (λ t. expression t s) (tree-Call x a i b) ∙ call_is (expr_tree x) _ _ _ s

pub arm_select : (x : Expr) (by : Selection) (a : Span) (i : Identifier) (s : State) →
    expression (expr_tree (e.Select x by a i)) s ≡ after (expression (expr_tree x) s) (selected by a.at i.name i.span.at)
unfolding selection_production
arm_select x selection.Dot a i s = ap (λ t. expression t s) (tree-Select x selection.Dot a i)
    ∙ ap (λ o. after (expression (expr_tree x) s) (λ y. if_some o (λ op. selected op a.at i.name i.span.at y))) (selection_of-mark selection.Dot)
arm_select x selection.Arrow a i s = ap (λ t. expression t s) (tree-Select x selection.Arrow a i)
    ∙ ap (λ o. after (expression (expr_tree x) s) (λ y. if_some o (λ op. selected op a.at i.name i.span.at y))) (selection_of-mark selection.Arrow)

pub arm_post_increment : (x : Expr) (by : IncDec) (a : Span) (s : State) →
    expression (expr_tree (e.PostIncrement x by a)) s ≡ after (expression (expr_tree x) s) (stepped by a.at true)
arm_post_increment x by a s =
    ap (λ t. expression t s) (tree-PostIncrement x by a) ∙ ap (λ o. after (expression (expr_tree x) s) (λ y. if_some o (λ op. stepped op a.at true y))) (inc_dec_of-mark by)

pub arm_increment : (by : IncDec) (a : Span) (x : Expr) (s : State) →
    expression (expr_tree (e.Increment by a x)) s ≡ after (expression (expr_tree x) s) (stepped by a.at false)
arm_increment by a x s =
    ap (λ t. expression t s) (tree-Increment by a x) ∙ ap (λ o. after (expression (expr_tree x) s) (λ y. if_some o (λ op. stepped op a.at false y))) (inc_dec_of-mark by)

pub arm_unary : (op : UnaryOp) (a : Span) (x : Expr) (s : State) → expression (expr_tree (e.Unary op a x)) s ≡ after (expression (expr_tree x) s) (unary op a.at)
arm_unary op a x s = ap (λ t. expression t s) (tree-Unary op a x) ∙ ap (λ o. after (expression (expr_tree x) s) (λ y. if_some o (λ op. unary op a.at y))) (unary_of-mark op)

pub arm_sizeof : (a : Span) (x : Expr) (s : State) →
    expression (expr_tree (e.Sizeof a x)) s ≡ after (expression (expr_tree x) s) (λ y. measured a.at (option_map operand_type y))
arm_sizeof a x s = ap (λ t. expression t s) (tree-Sizeof a x) ∙ sizeof_is x (word w.Sizeof a) Nil s

pub arm_sizeof_type : (k a : Span) (i : TypeName) (b : Span) (s : State) → expression (expr_tree (e.SizeofType k a i b)) s ≡ after (type_name (type_tree i) s) (measured k.at)
arm_sizeof_type k a i b s = ap (λ t. expression t s) (tree-SizeofType k a i b)

pub arm_cast : (a : Span) (i : TypeName) (b : Span) (x : Expr) (s : State) →
    expression (expr_tree (e.Cast a i b x)) s ≡ after (type_name (type_tree i) s) (λ t. λ s. after (expression (expr_tree x) s) (cast a.at t))
arm_cast a i b x s = ap (λ t. expression t s) (tree-Cast a i b x)

pub arm_binary : (x : Expr) (op : BinaryOp) (a : Span) (y : Expr) (s : State) →
    expression (expr_tree (e.Binary x op a y)) s ≡ after (expression (expr_tree x) s) (λ b. λ s. after (expression (expr_tree y) s) (binary op a.at b))
arm_binary x op a y s =
    ap (λ t. expression t s) (tree-Binary x op a y)
    ∙ ap (λ o. after (expression (expr_tree x) s) (λ b. λ s. after (expression (expr_tree y) s) (λ c. if_some o (λ op. binary op a.at b c)))) (binary_of-mark op)

pub arm_conditional : (x : Expr) (a : Span) (i : ExprList) (b : Span) (y : Expr) (s : State) →
    expression (expr_tree (e.Conditional x a i b y)) s ≡ after (expression (expr_tree x) s) (λ c. λ s. after (expressions (list_tree i) s) (λ d. λ t. after (expression (expr_tree y) t)
    (conditional a.at c d)))
arm_conditional x a i b y s = ap (λ t. expression t s) (tree-Conditional x a i b y)

pub arm_assign : (x : Expr) (op : AssignOp) (a : Span) (y : Expr) (s : State) →
    expression (expr_tree (e.Assign x op a y)) s ≡ after (expression (expr_tree x) s) (λ b. λ s. after (expression (expr_tree y) s) (assigned op a.at b))
arm_assign x op a y s =
    ap (λ t. expression t s) (tree-Assign x op a y)
    ∙ ap (λ o. after (expression (expr_tree x) s) (λ b. λ s. after (expression (expr_tree y) s) (λ c. if_some o (λ op. assigned op a.at b c)))) (assign_of-mark op)

-- a call of what is called
abbrev pub with_arguments : Option ExprList → (offset : ℕ) → Called → State → Term × State
with_arguments xs offset f s = after (arguments (opt l.Arguments list_children xs) s) (called offset f)

pub called_as : (x y z : Expr) (a : Span) (xs : Option ExprList) (b : Span) (f : Called) (s t : State) → x ≡ e.Call y a xs b → z ≡ y
    → f ≡ (called_of (expr_tree z) s).0 → t ≡ (called_of (expr_tree z) s).1 → with_arguments xs a.at f t ≡ expression (expr_tree x) s
called_as x y z a xs b f s t is same value state =
    ap (λ g. with_arguments xs a.at g t) value ∙ ap (λ u. with_arguments xs a.at (called_of (expr_tree z) s).0 u) state
    ∙ ap (λ w. after (called_of (expr_tree w) s) (with_arguments xs a.at)) same ∙ sym (ap (λ w. expression (expr_tree w) s) is ∙ arm_call y a xs b s)

pub ruleset arms = (
  arm_name,
  arm_number,
  arm_char,
  arm_text,
  arm_paren,
  arm_index,
  arm_call,
  arm_select,
  arm_post_increment,
  arm_increment,
  arm_unary,
  arm_sizeof,
  arm_sizeof_type,
  arm_cast,
  arm_binary,
  arm_conditional,
  arm_assign,
)
