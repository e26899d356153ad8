-- What expressions are made of: names, constants, calls, and what operators make of operands (ISO/IEC 9899:2011, 6.5).
use Rattle.std.specs.Prelude.{ℕ, suc, Bool, true, false, if◌then◌else◌, List, [], ◌∷◌, ◌++◌, length, Option, None, Some, option_map, option_and_then}
use Rattle.c_ast.specs.declared.operator.Selection.{Selection}
use Rattle.c_ast.specs.declared.operator.IncDec.{IncDec}
use Rattle.c_ast.specs.declared.operator.UnaryOp.{UnaryOp}
use Rattle.c_ast.specs.declared.operator.UnaryOp.TheVariants as unary_operator
use Rattle.c_ast.specs.declared.operator.BinaryOp.{BinaryOp}
use Rattle.c_ast.specs.declared.operator.AssignOp.{AssignOp}
use Rattle.c_lex.specs.declared.token.TokenKind.{TokenKind}
use Rattle.c_lex.specs.declared.token.TokenKind.TheVariants as kind
use Rattle.c_ast.specs.Tree.{Tree, Leaf}
use Rattle.c_type.specs.declared.scalar.Scalar.TheVariants as scalar
use Rattle.c_type.specs.Trees.{TypeTree, scalar_type, array_of}
use Rattle.c_typed.specs.Typed as typed
use Rattle.c_typed.specs.Typed.{ExprTree, expr, constant, place, local, global, characters_at, exprs_of}
use Rattle.c_typed.specs.WellTyped.{int, if_unsigned, type_of}
use Rattle.c_check_def.specs.declared.operand.Operand.{Operand}
use Rattle.c_check_def.specs.declared.operand.Operand.TheVariants.{Place, Value}
use Rattle.c_check_def.specs.Constants.{constant_value}
use Rattle.c_check_def.specs.OperandValues.{value_of, is_assignable}
use Rattle.c_check_def.specs.Operators.{binary_typed, unary_typed, conditional_typed, index_typed, selected_tag, member_typed, cast_typed, size_typed}
use Rattle.c_check_def.specs.Assignments.{assigned_typed, step_typed}
use Rattle.c_check_scope.specs.Scopes.{Name}
use Rattle.c_check_scope.specs.Members.{member_number}
use Rattle.c_check_def.specs.declared.refusal_kind.RefusalKind.TheVariants.{Unknown, NotAssignable, BadOperands, BadCall}
use Rattle.c_check_def.specs.declared.meaning.Meaning.{Meaning}
use Rattle.c_check_def.specs.declared.meaning.Meaning.TheVariants as means
use Rattle.c_check_def.specs.State.{MaybeType, Elaborated, ◌>>=◌, ◌>>◌, pure, state, broken_at, or_broken, if_some, meaning_of, variable_type, change_variable, global_type, add_global}

-- what an expression is, unless a rule is broken within it
abbrev pub Term : Type 0
Term = Option Operand

abbrev pub term_of : Option ExprTree → Term
term_of e = option_map Value e

-- ---- names (6.5.1)

abbrev pub variable_named : (slot : ℕ) → (is_const : Bool) → Elaborated Term
variable_named slot is_const = do
  change_variable slot (λ v. record v { is_named = true })
  t ← variable_type slot
  pure (option_map (λ t. Place (place t (local slot)) is_const) t)

abbrev pub global_named : (number : ℕ) → (is_const : Bool) → Elaborated Term
global_named k is_const = do
  t ← global_type k
  pure (option_map (λ t. Place (place t (global k)) is_const) t)

-- A function's name is an expression only where it is called.
abbrev pub term_meant : (offset : ℕ) → Option Meaning → Elaborated Term
term_meant offset None = broken_at Unknown offset
term_meant offset (Some (means.Variable slot is_const)) = variable_named slot is_const
term_meant offset (Some (means.Global k is_const)) = global_named k is_const
term_meant offset (Some (means.Function k)) = broken_at BadCall offset

abbrev pub named : Name → (offset : ℕ) → Elaborated Term
named name offset = do
  m ← meaning_of name
  term_meant offset m

-- ---- constants (6.4.4), strings (6.4.5)

abbrev pub constant_by : TokenKind → Term
constant_by (kind.Number w unsigned) = Some (Value (expr (if_unsigned unsigned) (constant w)))
constant_by (kind.Char c) = Some (Value (expr int (constant c)))
constant_by k = None

abbrev pub constant_of : Tree → Term
constant_of (Leaf x) = constant_by x.kind
constant_of t = None

-- the array that a string literal is
abbrev pub string_type : List ℕ → TypeTree
string_type cs = array_of (scalar_type scalar.Char) (suc (length cs))

abbrev pub string : (offset : ℕ) → List ℕ → Elaborated Term
string offset cs = do
  k ← add_global (record { offset = offset; type = Some (string_type cs); is_variable = false; fixed = true; written = characters_at 0 cs ∷ [] })
  pure (Some (Place (place (string_type cs) (global k)) false))

-- ---- operators

abbrev pub binary : BinaryOp → (offset : ℕ) → Term → Term → Elaborated Term
binary o offset a b = do
  s ← state
  if_some a (λ x. if_some b (λ y. or_broken BadOperands offset (term_of (binary_typed s.structs o x y))))

abbrev pub conditional : (offset : ℕ) → Term → Term → Term → Elaborated Term
conditional offset c a b = if_some c (λ z. if_some a (λ x. if_some b (λ y. or_broken BadOperands offset (term_of (conditional_typed z x y)))))

abbrev pub indexed : (offset : ℕ) → Term → Term → Elaborated Term
indexed offset a b = do
  s ← state
  if_some a (λ x. if_some b (λ y. or_broken BadOperands offset (index_typed s.structs x y)))

abbrev pub cast : (offset : ℕ) → MaybeType → Term → Elaborated Term
cast offset t a = if_some t (λ u. if_some a (λ x. or_broken BadOperands offset (term_of (cast_typed u x))))

abbrev pub measured : (offset : ℕ) → MaybeType → Elaborated Term
measured offset t = do
  s ← state
  if_some t (λ u. or_broken BadOperands offset (term_of (size_typed s.structs u)))

-- ---- unary operators: `&` takes the address of what it names

abbrev pub take_address : Operand → Elaborated (Unit {0})
take_address (Place (place t (local slot)) is_const) = change_variable slot (λ v. record v { is_taken = true })
take_address a = pure tt

abbrev pub address : (offset : ℕ) → Operand → Elaborated Term
address offset a = do
  take_address a
  or_broken NotAssignable offset (unary_typed unary_operator.AddressOf a)

abbrev pub unary_of : UnaryOp → (offset : ℕ) → Operand → Elaborated Term
unary_of unary_operator.AddressOf offset a = address offset a
unary_of o offset a = or_broken BadOperands offset (unary_typed o a)

abbrev pub unary : UnaryOp → (offset : ℕ) → Term → Elaborated Term
unary o offset a = if_some a (unary_of o offset)

-- ---- what changes its operand (6.5.2.4, 6.5.3.1, 6.5.16)

-- the target, where it may be assigned
abbrev pub target : (offset : ℕ) → Term → Elaborated Term
target offset a = if_some a (λ x. if is_assignable x then pure (Some x) else broken_at NotAssignable offset)

abbrev pub stepped : IncDec → (offset : ℕ) → (gives_old : Bool) → Term → Elaborated Term
stepped o offset gives_old a = do
  s ← state
  t ← target offset a
  if_some t (λ x. or_broken BadOperands offset (term_of (step_typed s.structs o gives_old x)))

abbrev pub assigned : AssignOp → (offset : ℕ) → Term → Term → Elaborated Term
assigned o offset a b = do
  s ← state
  t ← target offset a
  if_some t (λ x. if_some b (λ y. or_broken BadOperands offset (term_of (assigned_typed s.structs o x y))))

-- ---- members (6.5.2.3)

abbrev pub member_numbered : Selection → (offset : ℕ) → Operand → Option ℕ → Elaborated Term
member_numbered o offset a None = broken_at Unknown offset
member_numbered o offset a (Some k) = do
  s ← state
  or_broken Unknown offset (member_typed s.structs o a k)

abbrev pub member_named : Selection → (name : Name) → (offset : ℕ) → Operand → (tag : ℕ) → Elaborated Term
member_named o name offset a tag = do
  s ← state
  member_numbered o offset a (member_number s.members tag name)

abbrev pub selected : Selection → (offset : ℕ) → (name : Name) → (name_offset : ℕ) → Term → Elaborated Term
selected o offset name name_offset a =
    if_some a (λ x. do
      tag ← or_broken BadOperands offset (selected_tag o x)
      if_some tag (member_named o name name_offset x))

-- ---- commas (6.5.17)

-- the values that are dropped, and the operand after the last comma
pub record Sequence : Type 0 where
  pub dropped : List ExprTree
  pub last : Operand

abbrev pub first_of : Operand → Sequence
first_of a = record { dropped = []; last = a }

abbrev pub followed_by : Sequence → Operand → Option Sequence
followed_by x b = option_and_then (λ e. option_map (λ f. record { dropped = x.dropped ++ e ∷ []; last = Value f }) (value_of b)) (value_of x.last)

abbrev pub comma : (offset : ℕ) → Option Sequence → Term → Elaborated (Option Sequence)
comma offset x b = if_some x (λ y. if_some b (λ z. or_broken BadOperands offset (followed_by y z)))

-- the value of the last of them
abbrev pub sequence_value : List ExprTree → Operand → Operand
sequence_value [] a = a
sequence_value es (Value e) = Value (expr (type_of e) (typed.comma (exprs_of es) e))
sequence_value es a = a

abbrev pub sequence_term : Option Sequence → Term
sequence_term x = option_map (λ y. sequence_value y.dropped y.last) x

-- ---- dimensions: constants from 1 to the number of bytes that a type may have (6.7.6.2)

abbrev pub term_value : Term → Option ExprTree
term_value a = option_and_then value_of a

-- the word of an integer constant expression
abbrev pub term_constant : Term → Option ℕ
term_constant a = option_and_then constant_value (term_value a)
