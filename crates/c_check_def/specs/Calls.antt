-- Calls (ISO/IEC 9899:2011, 6.5.2.2). Three functions are declared before the program begins.
use Rattle.std.specs.Prelude.{ℕ, zero, suc, ◌&&◌, Bool, true, false, if◌then◌else◌, List, [], ◌∷◌, Option, None, Some, option_map, option_and_then, slice_get}
use Rattle.c_type.specs.Trees.{TypeTree, void_type}
use Rattle.c_typed.specs.declared.operator.UnaryOp.TheVariants as unary_op
use Rattle.c_typed.specs.Typed as typed
use Rattle.c_typed.specs.Typed.{ExprTree, expr, FormTree, exprs_of}
use Rattle.c_typed.specs.WellTyped.{int}
use Rattle.c_check_def.specs.declared.operand.Operand.{Operand}
use Rattle.c_check_def.specs.declared.operand.Operand.TheVariants.{Value}
use Rattle.c_check_def.specs.Conversions.{converts}
use Rattle.c_check_def.specs.OperandValues.{value_of}
use Rattle.c_check_scope.specs.Scopes.{Name}
use Rattle.c_check_scope.specs.Names.{number_of}
use Rattle.c_check_def.specs.declared.call.Callee.{Callee}
use Rattle.c_check_def.specs.declared.call.Callee.TheVariants as callees
use Rattle.c_check_def.specs.declared.call.Called.{Called}
use Rattle.c_check_def.specs.declared.call.Called.TheVariants as calls
use Rattle.c_check_def.specs.declared.refusal_kind.RefusalKind.TheVariants.{Unknown, BadCall}
use Rattle.c_check_def.specs.declared.meaning.Meaning.{Meaning}
use Rattle.c_check_def.specs.declared.meaning.Meaning.TheVariants as means
use Rattle.c_check_def.specs.State.{MaybeType, Declared, Elaborated, ◌>>=◌, pure, state, broken_at, meaning_of}
use Rattle.c_check_def.specs.Operands.{Term, term_meant}

-- ---- the name of a function

-- A function is called only where the file defines it.
abbrev pub callee_of : (offset : ℕ) → Option ℕ → Elaborated (Option Callee)
callee_of offset None = broken_at Unknown offset
callee_of offset (Some n) = pure (Some (callees.Defined n))

abbrev pub callee_numbered : ℕ → (name : Name) → (offset : ℕ) → Elaborated (Option Callee)
callee_numbered zero name offset = pure (Some callees.Putchar)
callee_numbered (suc zero) name offset = pure (Some callees.Getchar)
callee_numbered (suc (suc zero)) name offset = pure (Some callees.Exit)
callee_numbered k name offset = do
  s ← state
  callee_of offset (number_of s.defined name)

abbrev pub called_as : (declared : ℕ) → Option Callee → Called
called_as k None = calls.Nothing
called_as k (Some callee) = calls.Function callee k

-- an expression is called: no function, unless a rule is broken within it
abbrev pub called_term : Term → Called
called_term None = calls.Nothing
called_term (Some a) = calls.NoFunction

abbrev pub called_meant : (name : Name) → (offset : ℕ) → Option Meaning → Elaborated Called
called_meant name offset (Some (means.Function k)) = do
  callee ← callee_numbered k name offset
  pure (called_as k callee)
called_meant name offset m = do
  a ← term_meant offset m
  pure (called_term a)

abbrev pub called_name : Name → (offset : ℕ) → Elaborated Called
called_name name offset = do
  m ← meaning_of name
  called_meant name offset m

-- ---- arguments

-- an argument fits where it converts, or where it or the parameter has no type
abbrev pub is_some_of : Option ExprTree → Bool
is_some_of None = false
is_some_of (Some e) = true

abbrev pub passed : TypeTree → Operand → Option ExprTree
passed t a = option_and_then (converts t) (value_of a)

abbrev pub fits : MaybeType → Term → Bool
fits (Some t) (Some a) = is_some_of (passed t a)
fits t a = true

-- as many arguments as parameters, each of which fits
abbrev pub all_fit : List MaybeType → List Term → Bool
all_fit [] [] = true
all_fit (t ∷ ts) (a ∷ xs) = fits t a && all_fit ts xs
all_fit ts xs = false

abbrev pub passed_as : MaybeType → Term → Option ExprTree
passed_as t a = option_and_then (λ u. option_and_then (passed u) a) t

-- the arguments, converted, where all have types
abbrev pub all_passed : List MaybeType → List Term → Option (List ExprTree)
all_passed [] [] = Some []
all_passed (t ∷ ts) (a ∷ xs) = option_and_then (λ e. option_map (λ es. e ∷ es) (all_passed ts xs)) (passed_as t a)
all_passed ts xs = None

-- ---- the call

abbrev pub call_form : Callee → List ExprTree → FormTree
call_form callees.Putchar (e ∷ es) = typed.unary unary_op.Put e
call_form callees.Exit (e ∷ es) = typed.unary unary_op.Exit e
call_form (callees.Defined n) es = typed.call n (exprs_of es)
call_form callee es = typed.get

abbrev pub call_term : Callee → Declared → List Term → Term
call_term callee f xs = option_and_then (λ t. option_map (λ es. Value (expr t (call_form callee es))) (all_passed f.params xs)) f.result

abbrev pub call_of : (offset : ℕ) → Callee → List Term → Option Declared → Elaborated Term
call_of offset callee xs None = pure None
call_of offset callee xs (Some f) = if all_fit f.params xs then pure (call_term callee f xs) else broken_at BadCall offset

abbrev pub called : (offset : ℕ) → Called → List Term → Elaborated Term
called offset calls.Nothing xs = pure None
called offset calls.NoFunction xs = broken_at BadCall offset
called offset (calls.Function callee k) xs = do
  s ← state
  call_of offset callee xs (slice_get s.declared k)

-- ---- the functions that are declared before the program begins, in order of the callees

abbrev pub predeclared : List Declared
predeclared =
    record { result = Some int; params = Some int ∷ []; is_defined = true }
    ∷ record { result = Some int; params = []; is_defined = true }
    ∷ record { result = Some void_type; params = Some int ∷ []; is_defined = true } ∷ []
