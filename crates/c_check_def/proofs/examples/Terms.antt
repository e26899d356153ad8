-- Short forms for the operands of the worked rows. Operands may be none, so that rows can be nested. A variable of a type
-- is the local one at slot 0.
use Rattle.std.specs.Prelude.{ℕ, Bool, true, false, [], ◌∷◌, Option, Some, option_map, option_and_then}
use Rattle.c_ast.specs.declared.operator.Selection.{Selection}
use Rattle.c_ast.specs.declared.operator.IncDec.{IncDec}
use Rattle.c_ast.specs.declared.operator.UnaryOp.{UnaryOp}
use Rattle.c_ast.specs.declared.operator.BinaryOp.{BinaryOp}
use Rattle.c_ast.specs.declared.operator.AssignOp.{AssignOp}
use Rattle.c_type.specs.declared.scalar.Scalar.TheVariants as scalar
use Rattle.c_type.specs.Trees.{TypeTree, scalar_type, pointer_to, array_of, struct_type}
use Rattle.c_type.specs.Layout.{Definitions}
use Rattle.c_typed.specs.Typed.{ExprTree, expr, constant, place, local}
use Rattle.c_typed.specs.WellTyped.{int, unsigned_int}
use Rattle.c_check_def.specs.declared.operand.Operand.{Operand}
use Rattle.c_check_def.specs.declared.operand.Operand.TheVariants.{Place, Value}
use Rattle.c_check_def.specs.Constants.{constant_value, is_null_constant}
use Rattle.c_check_def.specs.OperandValues.{operand_type, value_of, is_assignable}
use Rattle.c_check_def.specs.Operators.{binary_typed, unary_typed, conditional_typed, index_typed, member_typed, cast_typed, size_typed}
use Rattle.c_check_def.specs.Assignments.{assigned_typed, step_typed}

-- ---- types

abbrev pub char : TypeTree
char = scalar_type scalar.Char

abbrev pub unsigned_char : TypeTree
unsigned_char = scalar_type scalar.UnsignedChar

abbrev pub short : TypeTree
short = scalar_type scalar.Short

-- struct s { char a; int b[2]; struct s *c; }, and struct q, which is incomplete
abbrev pub s : TypeTree
s = struct_type 1

abbrev pub q : TypeTree
q = struct_type 2

abbrev pub structs : Definitions
structs = record { tag = 1; members = char ∷ array_of int 2 ∷ pointer_to s ∷ [] } ∷ []

-- ---- operands

abbrev pub Term : Type 0
Term = Option Operand

abbrev pub number : ℕ → Term
number w = Some (Value (expr int (constant w)))

abbrev pub unsigned_number : ℕ → Term
unsigned_number w = Some (Value (expr unsigned_int (constant w)))

abbrev pub variable : TypeTree → Term
variable t = Some (Place (place t (local 0)) false)

abbrev pub const_variable : TypeTree → Term
const_variable t = Some (Place (place t (local 0)) true)

abbrev pub value : Option ExprTree → Term
value e = option_map Value e

-- ---- operators

abbrev pub binary : BinaryOp → Term → Term → Term
binary o a b = option_and_then (λ x. option_and_then (λ y. value (binary_typed structs o x y)) b) a

abbrev pub unary : UnaryOp → Term → Term
unary o a = option_and_then (unary_typed o) a

abbrev pub conditional : Term → Term → Term → Term
conditional c a b = option_and_then (λ z. option_and_then (λ x. option_and_then (λ y. value (conditional_typed z x y)) b) a) c

abbrev pub index : Term → Term → Term
index a b = option_and_then (λ x. option_and_then (index_typed structs x) b) a

abbrev pub member : Selection → ℕ → Term → Term
member o k a = option_and_then (λ x. member_typed structs o x k) a

abbrev pub assigned : AssignOp → Term → Term → Term
assigned o a b = option_and_then (λ x. option_and_then (λ y. value (assigned_typed structs o x y)) b) a

abbrev pub step : IncDec → Term → Term
step o a = option_and_then (λ x. value (step_typed structs o true x)) a

abbrev pub cast : TypeTree → Term → Term
cast t a = option_and_then (λ x. value (cast_typed t x)) a

abbrev pub size : TypeTree → Term
size t = value (size_typed structs t)

-- ---- what is asked of them

abbrev pub type : Term → Option TypeTree
type a = option_map operand_type a

abbrev pub worth : Term → Option ℕ
worth a = option_and_then (λ x. option_and_then constant_value (value_of x)) a

abbrev pub is_null : Term → Option Bool
is_null a = option_map is_null_constant (option_and_then value_of a)

abbrev pub may_be_assigned : Term → Option Bool
may_be_assigned a = option_map is_assignable a
