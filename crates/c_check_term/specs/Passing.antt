-- What arguments are passed as.
use Rattle.std.specs.Prelude.{ℕ, Bool, true, false, List, [], ◌∷◌, ◌++◌, Option, None, Some, option_map, option_and_then}
use Rattle.std.specs.declared.vec.Vec.{Vec}
use Rattle.c_typed.specs.declared.operator.UnaryOp.{UnaryOp}
use Rattle.c_typed.specs.Typed.{ExprTree, expr, FormTree, unary, get}
use Rattle.c_check_def.specs.declared.operand.Operand.TheVariants.{Value}
use Rattle.c_check_term.specs.declared.arguments.Passing.{Passing}
use Rattle.c_check_term.specs.declared.arguments.Passing.TheVariants as passing
use Rattle.c_check_def.specs.declared.call.Callee.{Callee}
use Rattle.c_check_def.specs.State.{MaybeType, Elaborated, pure, broken_at}
use Rattle.c_check_def.specs.declared.refusal_kind.RefusalKind.TheVariants.{BadCall}
use Rattle.c_check_def.specs.Operands.{Term}
use Rattle.c_check_def.specs.Calls.{call_form}

-- whether it fits its parameter
abbrev pub is_fit : Passing → Bool
is_fit passing.Wrong = false
is_fit x = true

-- the expression that is passed
abbrev pub expr_in : Passing → Option ExprTree
expr_in (passing.Typed e) = Some e.value
expr_in x = None

abbrev pub exprs_in : {Z : Type 0} → Option (Vec ExprTree Z) → Option (List ExprTree)
exprs_in {Z} xs = option_map (λ (v : Vec ExprTree Z). v.items) xs

-- the expressions with one more, where all have types
abbrev pub one_more : Option (List ExprTree) → Option ExprTree → Option (List ExprTree)
one_more xs x = option_and_then (λ es. option_map (λ e. es ++ e ∷ []) x) xs

-- the term of a call whose arguments fit, or else the broken rule
abbrev pub fit_or_broken : (offset : ℕ) → Option Term → Elaborated Term
fit_or_broken offset None = broken_at BadCall offset
fit_or_broken offset (Some a) = pure a

-- ---- calls

-- the call of a function with a result of this type, where there are arguments
abbrev pub typed_call : Callee → MaybeType → Option (List ExprTree) → Term
typed_call callee t xs = option_and_then (λ t. option_map (λ es. Value (expr t (call_form callee es))) xs) t

-- an operation on the first argument
abbrev pub unary_form : UnaryOp → List ExprTree → FormTree
unary_form op [] = get
unary_form op (e ∷ es) = unary op e
