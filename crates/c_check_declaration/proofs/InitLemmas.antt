-- What is asked of the list of an initialiser.
use Rattle.std.proofs.Common.{◌≡◌, suc, ◌+◌, ◌==◌, true, false, List, [], ◌∷◌, length, fold, Option, None, Some, refl, sym, ◌∙◌, ap, arith, eqb-true}
use Rattle.c_ast.specs.declared.list.Next.{Next}
use Rattle.c_ast.specs.declared.token.Span.{Span}
use Rattle.c_ast.specs.Productions as l
use Rattle.c_ast.specs.Tree.{Tree}
use Rattle.c_ast.specs.Nodes.{node, mark, name}
use Rattle.c_ast.specs.Operators.{selection_production, selection_mark}
use Rattle.c_ast.specs.Expressions.{expr_tree}
use Rattle.c_ast.specs.declared.expression.Expr.{Expr}
use Rattle.c_ast.specs.declared.expression.Expr.TheVariants as e
use Rattle.c_ast.specs.declared.operator.Selection.{Selection}
use Rattle.c_ast.specs.declared.operator.Selection.TheVariants as selection
use Rattle.c_ast.specs.declared.token.Identifier.{Identifier}
use Rattle.c_ast.proofs.lemmas.ExprViews.{tree-Select}
use Rattle.c_check_declaration.specs.Parts.{text_in, is_list}
use Rattle.c_ast.specs.Declarations.{inits, init_after, comma_after, ended_by}
use Rattle.c_check_def.specs.Initialisers.{count_in, is_zero, is_zero_list}

module _ {X : Type 0} (view : X → Tree) where
  count_from : (t : Tree) (xs : List (Next X)) → count_in (fold (init_after view) t xs) ≡ count_in t + length xs
  count_from t [] = omega arith
  count_from t (x ∷ xs) = count_from (init_after view t x) xs ∙ omega arith

  -- as many as elements
  pub count-inits : (x : X) (xs : List (Next X)) → count_in (inits view x xs) ≡ suc (length xs)
  unfolding inits
  count-inits x xs = count_from (node l.InitFirst (view x ∷ [])) xs ∙ omega arith

  pub count-ended : (x : X) (xs : List (Next X)) (comma : Option Span) → count_in (ended_by (inits view x xs) comma) ≡ suc (length xs)
  count-ended x xs None = count-inits x xs
  count-ended x xs (Some s) = count-inits x xs

  -- a list of more than one element is not `{0}`
  zero_from : (ts : List Tree) (xs : List (Next X)) → is_zero_list (fold (init_after view) (node l.InitNext ts) xs) ≡ false
  zero_from ts [] = refl
  zero_from ts (x ∷ xs) = zero_from (comma_after (node l.InitNext ts) x.comma ∷ view x.element ∷ []) xs

  ended_from : (ts : List Tree) (xs : List (Next X)) (s : Span) → is_zero_list (comma_after (fold (init_after view) (node l.InitNext ts) xs) s) ≡ false
  ended_from ts [] s = refl
  ended_from ts (x ∷ xs) s = ended_from (comma_after (node l.InitNext ts) x.comma ∷ view x.element ∷ []) xs s

  pub zero-one : (x : X) → is_zero_list (inits view x []) ≡ is_zero (view x)
  unfolding inits
  zero-one x = refl

  pub zero-more : (x : X) (y : Next X) (ys : List (Next X)) → is_zero_list (inits view x (y ∷ ys)) ≡ false
  unfolding inits
  zero-more x y ys = zero_from (comma_after (node l.InitFirst (view x ∷ [])) y.comma ∷ view y.element ∷ []) ys

  -- a comma after the last does not matter
  pub zero-ended : (x : X) (xs : List (Next X)) (comma : Option Span) → is_zero_list (ended_by (inits view x xs) comma) ≡ is_zero_list (inits view x xs)
  unfolding inits
  zero-ended x xs None = refl
  zero-ended x [] (Some s) = refl
  zero-ended x (y ∷ ys) (Some s) = ended_from (comma_after (node l.InitFirst (view x ∷ [])) y.comma ∷ view y.element ∷ []) ys s ∙ sym (zero-more x y ys)

-- by whether there is more than one
pub zero-empty : {X : Type 0} (view : X → Tree) (x : X) (xs : List (Next X)) → (length xs == 0) ≡ true → is_zero_list (inits view x xs) ≡ is_zero (view x)
zero-empty view x [] h = zero-one view x
zero-empty view x (y ∷ ys) h = absurd (omega (arith, eqb-true (length (y ∷ ys)) 0 h))

pub zero-many : {X : Type 0} (view : X → Tree) (x : X) (xs : List (Next X)) → (length xs == 0) ≡ false → is_zero_list (inits view x xs) ≡ false
zero-many view x [] h = absurd cc
zero-many view x (y ∷ ys) h = zero-more view x y ys

-- ---- members, which two productions select

select-zero : (s : Selection) (ts : List Tree) → is_zero (node (selection_production s) ts) ≡ false
unfolding selection_production
select-zero selection.Dot ts = refl
select-zero selection.Arrow ts = refl

pub zero-Select : (x : Expr) (by : Selection) (a : Span) (i : Identifier) → is_zero (expr_tree (e.Select x by a i)) ≡ false
zero-Select x by a i = ap is_zero (tree-Select x by a i) ∙ select-zero by (expr_tree x ∷ mark (selection_mark by) a ∷ name i ∷ [])

select-text : (s : Selection) (ts : List Tree) → text_in (node (selection_production s) ts) ≡ None
unfolding selection_production
select-text selection.Dot ts = refl
select-text selection.Arrow ts = refl

pub text-Select : (x : Expr) (by : Selection) (a : Span) (i : Identifier) → text_in (expr_tree (e.Select x by a i)) ≡ None
text-Select x by a i = ap text_in (tree-Select x by a i) ∙ select-text by (expr_tree x ∷ mark (selection_mark by) a ∷ name i ∷ [])

select-list : (s : Selection) (ts : List Tree) → is_list (node (selection_production s) ts) ≡ false
unfolding selection_production
select-list selection.Dot ts = refl
select-list selection.Arrow ts = refl

pub list-Select : (x : Expr) (by : Selection) (a : Span) (i : Identifier) → is_list (expr_tree (e.Select x by a i)) ≡ false
list-Select x by a i = ap is_list (tree-Select x by a i) ∙ select-list by (expr_tree x ∷ mark (selection_mark by) a ∷ name i ∷ [])

pub ruleset lists = (count-inits, zero-one, zero-more)

pub ruleset selections = (zero-Select, text-Select, list-Select)
