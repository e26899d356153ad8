-- The trees that expressions and places of the code stand for.
use Rattle.c_typed.specs.Typed.{FormTree, PlaceFormTree, exprs_of, constant, read, address, unary, binary, logical_and, logical_or, conditional, comma, assign, compound, inc_dec, call, get, local, global, at, member}
use Rattle.c_typed.specs.declared.expression.ExprForm.{ExprForm}
use Rattle.c_typed.specs.declared.expression.ExprForm.TheVariants as form
use Rattle.c_typed.specs.declared.expression.PlaceForm.{PlaceForm}
use Rattle.c_typed.specs.declared.expression.PlaceForm.TheVariants as place_form

abbrev pub form_of : ExprForm → FormTree
form_of (form.Constant w) = constant w
form_of (form.Read p) = read p
form_of (form.Address p) = address p
form_of (form.Unary op e) = unary op e.value
form_of (form.Binary op a b) = binary op a.value b.value
form_of (form.LogicalAnd a b) = logical_and a.value b.value
form_of (form.LogicalOr a b) = logical_or a.value b.value
form_of (form.Conditional c a b) = conditional c.value a.value b.value
form_of (form.Comma es e) = comma (exprs_of es.items) e.value
form_of (form.Assign p e) = assign p e.value
form_of (form.Compound op p e) = compound op p e.value
form_of (form.IncDec op p) = inc_dec op p
form_of (form.Call f es) = call f (exprs_of es.items)
form_of form.Get = get

abbrev pub place_form_of : PlaceForm → PlaceFormTree
place_form_of (place_form.Local slot) = local slot
place_form_of (place_form.Global number) = global number
place_form_of (place_form.At e) = at e.value
place_form_of (place_form.Member p offset) = member p.value offset
