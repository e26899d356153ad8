-- What the definition says where a tree is not of one shape.
use Rattle.std.proofs.Common.{◌≡◌, Bool, true, false, refl, ap, ◌∙◌}
use Rattle.std.specs.Option.{option_map}
use Rattle.c_ast.specs.declared.expression.Expr.{Expr}
use Rattle.c_ast.specs.declared.expression.Expr.TheFolds.{fold_out-Expr}
use Rattle.c_ast.specs.declared.expression.Expr.TheOpen.{Expr-F}
use Rattle.c_ast.specs.declared.expression.Expr.TheVariants as e
use Rattle.c_ast.specs.declared.operator.Selection.{Selection}
use Rattle.c_ast.specs.declared.operator.Selection.TheVariants as selection
use Rattle.c_ast.specs.declared.token.Identifier.{Identifier}
use Rattle.c_ast.specs.declared.token.Span.{Span}
use Rattle.c_ast.proofs.lemmas.ExprViews.{tree-Select}
use Rattle.c_ast.specs.Operators.{selection_production}
use Rattle.c_ast.specs.Expressions.{expr_tree, expr_step, dimension_step, list_step, type_step}
use Rattle.std.specs.Prelude.{List}
use Rattle.c_ast.specs.Productions as l
use Rattle.c_ast.specs.Tree.{Tree, Node, Cons}
use Rattle.c_check_def.specs.OperandValues.{operand_type}
use Rattle.c_check_def.specs.State.{State, after}
use Rattle.c_check_def.specs.Leaves.{offset_of}
use Rattle.c_check_def.specs.Operands.{measured}
use Rattle.c_check_def.specs.Calls.{called, called_term}
use Rattle.c_check_def.specs.Expressions.{expression, arguments}
use Rattle.c_check_expression.specs.Called.{is_name, called_of}

-- ---- calls

pub called_other : (t : Tree) (s : State) → is_name t ≡ false → called_of t s ≡ after (expression t s) (λ a. λ s. (called_term a, s))
called_other (Node l.Name (Cons x none)) s h = cc
called_other t s h = refl

pub call_is : (f opening xs more : Tree) (s : State) →
    expression (Node l.Call (Cons f (Cons opening (Cons xs more)))) s ≡ after (called_of f s) (λ c. λ s. after (arguments xs s) (called (offset_of opening) c))
call_is (Node l.Name (Cons x none)) opening xs more s = refl
call_is f opening xs more s = refl

-- ---- `sizeof`

-- a type name in parentheses
abbrev is_type : Tree → Bool
is_type (Node l.SizeofType (Cons opening (Cons operand none))) = true
is_type t = false

sizeof_other : (t word more : Tree) (s : State) → is_type t ≡ false →
    expression (Node l.Sizeof (Cons word (Cons t more))) s ≡ after (expression t s) (λ a. measured (offset_of word) (option_map operand_type a))
sizeof_other (Node l.SizeofType (Cons opening (Cons operand none))) word more s h = cc
sizeof_other t word more s h = refl

step_shape : (d : Expr-F Tree (List Tree) (List Tree) Tree) → is_type (expr_step d) ≡ false
unfolding selection_production
step_shape (Expr-F.Select object selection.Dot span member) = refl
step_shape (Expr-F.Select object selection.Arrow span member) = refl
step_shape d = refl

shape : (x : Expr) → is_type (expr_tree x) ≡ false
unfolding expr_tree
shape x = ap is_type (fold_out-Expr Tree (List Tree) (List Tree) Tree expr_step dimension_step list_step type_step x) ∙ step_shape _

pub sizeof_is : (x : Expr) (word more : Tree) (s : State) →
    expression (Node l.Sizeof (Cons word (Cons (expr_tree x) more))) s ≡ after (expression (expr_tree x) s) (λ a. measured (offset_of word) (option_map operand_type a))
sizeof_is x word more s = sizeof_other (expr_tree x) word more s (shape x)

-- ---- members

pub select_unnamed : (x : Expr) (by : Selection) (a : Span) (i : Identifier) → is_name (expr_tree (e.Select x by a i)) ≡ false
unfolding selection_production
select_unnamed x selection.Dot a i = ap is_name (tree-Select x selection.Dot a i)
select_unnamed x selection.Arrow a i = ap is_name (tree-Select x selection.Arrow a i)
