-- The operands of an expression or a place are smaller.
use Rattle.std.specs.Prelude.{◌≡◌, refl, suc, ◌+◌, ◌≤◌, max, List, [], ◌∷◌}
use Rattle.std.proofs.Common.{arith}
use denote.Param.Weighed.{most}
use Rattle.c_typed.specs.Typed.{ExprTree, PlaceTree, exprs_of, expr_size, form_size, exprs_size, place_size, place_form_size}
use Rattle.c_typed.specs.ExprViews.{form_of, place_form_of}
use Rattle.c_typed.specs.declared.expression.ExprForm.{ExprForm}
use Rattle.c_typed.specs.declared.expression.ExprForm.TheVariants as form
use Rattle.c_typed.specs.declared.expression.PlaceForm.{PlaceForm}
use Rattle.c_typed.specs.declared.expression.PlaceForm.TheVariants as place_form
use Rattle.c_typed.specs.declared.expression.TPlace.TheView as TPlace
use Rattle.c_typed.specs.declared.expression.TExpr.TheView as TExpr
use Rattle.c_typed.specs.declared.expression.TExpr.TheDeep.{deep-ExprForm, deep-PlaceForm}

pub most_exprs : (es : List ExprTree) → most (λ k. expr_size k + 1) es ≤ exprs_size (exprs_of es) + 1
most_exprs [] = omega arith
most_exprs (e ∷ es) = omega (arith, most_exprs es)

place_is : (p : PlaceTree) → TPlace.size p ≡ place_size p
place_is p = refl

expr_is : (e : ExprTree) → TExpr.size e ≡ expr_size e
expr_is e = refl

pub expr_height : (f : ExprForm) → max (deep-ExprForm f) 0 ≤ suc (form_size (form_of f))
expr_height (form.Constant w) = omega arith
expr_height (form.Read p) = omega (arith, place_is p)
expr_height (form.Address p) = omega (arith, place_is p)
expr_height (form.Unary op e) = omega arith
expr_height (form.Binary op a b) = omega arith
expr_height (form.LogicalAnd a b) = omega arith
expr_height (form.LogicalOr a b) = omega arith
expr_height (form.Conditional c a b) = omega arith
expr_height (form.Comma es e) = omega (arith, most_exprs es.items)
expr_height (form.Assign p e) = omega (arith, place_is p)
expr_height (form.Compound op p e) = omega (arith, place_is p)
expr_height (form.IncDec op p) = omega (arith, place_is p)
expr_height (form.Call f es) = omega (arith, most_exprs es.items)
expr_height form.Get = omega arith

pub place_height : (f : PlaceForm) → max (deep-PlaceForm f) 0 ≤ suc (place_form_size (place_form_of f))
place_height (place_form.Local slot) = omega arith
place_height (place_form.Global number) = omega arith
place_height (place_form.At e) = omega (arith, expr_is e.value)
place_height (place_form.Member p offset) = omega (arith, place_is p.value)
