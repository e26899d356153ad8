-- What an operator makes of operands (ISO/IEC 9899:2011, 6.5): a typed expression, an lvalue, or none where the operands
-- are not those that it takes.
use Rattle.std.specs.Prelude.{ℕ, ◌||◌, Bool, false, if◌then◌else◌, slice_get, Option, None, Some, option_map, option_and_then}
use Rattle.val_core.specs.declared.operation.Op2.TheVariants as op
use Rattle.c_ast.specs.declared.operator.Selection.{Selection}
use Rattle.c_ast.specs.declared.operator.Selection.TheVariants as selection
use Rattle.c_ast.specs.declared.operator.UnaryOp.{UnaryOp}
use Rattle.c_ast.specs.declared.operator.UnaryOp.TheVariants as unary_operator
use Rattle.c_ast.specs.declared.operator.BinaryOp.{BinaryOp}
use Rattle.c_ast.specs.declared.operator.BinaryOp.TheVariants as binary_operator
use Rattle.c_type.specs.Trees.{TypeTree, void_type, scalar_type, pointer_to, array_of, struct_type}
use Rattle.c_type.specs.Layout.{Definitions, is_defined, members, offset}
use Rattle.c_typed.specs.declared.operator.Relation.TheVariants as relation
use Rattle.c_typed.specs.declared.operator.UnaryOp.TheVariants as unary_op
use Rattle.c_typed.specs.Typed.{ExprTree, expr, constant, address, unary, logical_and, logical_or, conditional, comma, ExprTrees, PlaceTree, place, at, member}
use Rattle.c_typed.specs.WellTyped.{int, unsigned_int, type_of, place_type}
use Rattle.c_check_def.specs.declared.operand.Operand.{Operand}
use Rattle.c_check_def.specs.declared.operand.Operand.TheVariants.{Place, Value}
use Rattle.c_check_def.specs.Types.{same_type, promoted_type, common_type, laid_out_size}
use Rattle.c_check_def.specs.Constants.{is_null_constant}
use Rattle.c_check_def.specs.Conversions.{converted, promoted}
use Rattle.c_check_def.specs.OperandValues.{operand_type, value_of, if_scalar}
use Rattle.c_check_def.specs.Arithmetic.{integers, shifted, sum, difference, ordered, equated}

-- what is made of the values of two operands
abbrev pub on_values : (ExprTree → ExprTree → Option ExprTree) → Operand → Operand → Option ExprTree
on_values f a b = option_and_then (λ x. option_and_then (f x) (value_of b)) (value_of a)

-- ---- `&&` and `||` take integers or pointers (6.5.13, 6.5.14)

abbrev pub both : ExprTree → ExprTree → Option ExprTree
both a b = option_and_then (λ x. option_map (λ y. expr int (logical_and x y)) (if_scalar b)) (if_scalar a)

abbrev pub either : ExprTree → ExprTree → Option ExprTree
either a b = option_and_then (λ x. option_map (λ y. expr int (logical_or x y)) (if_scalar b)) (if_scalar a)

-- ---- binary operators

abbrev pub values_joined : Definitions → BinaryOp → ExprTree → ExprTree → Option ExprTree
values_joined defs binary_operator.Multiply a b = integers op.Mul op.Mul a b
values_joined defs binary_operator.Divide a b = integers op.Div op.Divu a b
values_joined defs binary_operator.Remainder a b = integers op.Rem op.Remu a b
values_joined defs binary_operator.BitAnd a b = integers op.And op.And a b
values_joined defs binary_operator.BitOr a b = integers op.Or op.Or a b
values_joined defs binary_operator.BitXor a b = integers op.Xor op.Xor a b
values_joined defs binary_operator.ShiftLeft a b = shifted op.Sll op.Sll a b
values_joined defs binary_operator.ShiftRight a b = shifted op.Sra op.Srl a b
values_joined defs binary_operator.Add a b = sum defs a b
values_joined defs binary_operator.Subtract a b = difference defs a b
values_joined defs binary_operator.Less a b = ordered relation.Less a b
values_joined defs binary_operator.Greater a b = ordered relation.Greater a b
values_joined defs binary_operator.LessEqual a b = ordered relation.LessEqual a b
values_joined defs binary_operator.GreaterEqual a b = ordered relation.GreaterEqual a b
values_joined defs binary_operator.Equal a b = equated relation.Equal a b
values_joined defs binary_operator.NotEqual a b = equated relation.NotEqual a b
values_joined defs binary_operator.And a b = both a b
values_joined defs binary_operator.Or a b = either a b

abbrev pub binary_typed : Definitions → BinaryOp → Operand → Operand → Option ExprTree
binary_typed defs o a b = on_values (values_joined defs o) a b

-- ---- unary operators (6.5.3)

-- what is made of an integer of this type
abbrev pub plus_by : TypeTree → ExprTree → Option ExprTree
plus_by (scalar_type s) e = Some (promoted s e)
plus_by t e = None

abbrev pub minus_by : TypeTree → ExprTree → Option ExprTree
minus_by (scalar_type s) e = Some (expr (promoted_type s) (unary unary_op.Negate (promoted s e)))
minus_by t e = None

abbrev pub complement_by : TypeTree → ExprTree → Option ExprTree
complement_by (scalar_type s) e = Some (expr (promoted_type s) (unary unary_op.Complement (promoted s e)))
complement_by t e = None

-- `!` takes an integer or a pointer
abbrev pub negation : ExprTree → Option ExprTree
negation e = option_map (λ x. expr int (unary unary_op.LogicalNot x)) (if_scalar e)

-- `*` takes a pointer, and gives what it points to
abbrev pub pointed_by : TypeTree → ExprTree → Option Operand
pointed_by (pointer_to t) e = Some (Place (place t (at e)) false)
pointed_by t e = None

abbrev pub pointed : ExprTree → Option Operand
pointed e = pointed_by (type_of e) e

-- what is made of the value of an operand: `&` takes none
abbrev pub value_joined : UnaryOp → ExprTree → Option Operand
value_joined unary_operator.Deref e = pointed e
value_joined unary_operator.Plus e = option_map Value (plus_by (type_of e) e)
value_joined unary_operator.Minus e = option_map Value (minus_by (type_of e) e)
value_joined unary_operator.BitNot e = option_map Value (complement_by (type_of e) e)
value_joined unary_operator.Not e = option_map Value (negation e)
value_joined unary_operator.AddressOf e = None

-- `&` takes an lvalue
abbrev pub address_of : Operand → Option Operand
address_of (Place p is_const) = Some (Value (expr (pointer_to (place_type p)) (address p)))
address_of (Value e) = None

abbrev pub unary_typed : UnaryOp → Operand → Option Operand
unary_typed unary_operator.AddressOf a = address_of a
unary_typed o a = option_and_then (value_joined o) (value_of a)

-- ---- `?:` takes two integers, two pointers of one type, a pointer and a null constant, or two void expressions (6.5.15)

abbrev pub choice : TypeTree → (condition left right : ExprTree) → ExprTree
choice t c a b = expr t (conditional c (converted t a) (converted t b))

abbrev pub choice_by : (left right : TypeTree) → (condition left right : ExprTree) → Option ExprTree
choice_by (scalar_type s) (scalar_type t) c a b = Some (choice (common_type s t) c a b)
choice_by (pointer_to s) (pointer_to t) c a b = if same_type s t then Some (expr (pointer_to s) (conditional c a b)) else None
choice_by (pointer_to s) (scalar_type t) c a b = if is_null_constant b then Some (expr (pointer_to s) (conditional c a (converted (pointer_to s) b))) else None
choice_by (scalar_type s) (pointer_to t) c a b = if is_null_constant a then Some (expr (pointer_to t) (conditional c (converted (pointer_to t) a) b)) else None
choice_by void_type void_type c a b = Some (expr void_type (conditional c a b))
choice_by _ _ c a b = None

abbrev pub choice_of : (condition left right : ExprTree) → Option ExprTree
choice_of c a b = choice_by (type_of a) (type_of b) c a b

abbrev pub condition_of : Operand → Option ExprTree
condition_of a = option_and_then if_scalar (value_of a)

abbrev pub conditional_typed : (condition left right : Operand) → Option ExprTree
conditional_typed c a b = option_and_then (λ d. on_values (choice_of d) a b) (condition_of c)

-- ---- `,` takes values, and drops all but the last (6.5.17)

abbrev pub comma_typed : (dropped : ExprTrees) → (last : ExprTree) → ExprTree
comma_typed es e = expr (type_of e) (comma es e)

-- ---- `[]` is `*` of a sum with a pointer (6.5.2.1p2), and an element of an array that is const is so too

abbrev pub is_const_array : TypeTree → Bool → Bool
is_const_array (array_of t n) is_const = is_const
is_const_array t is_const = false

abbrev pub has_const_elements : Operand → Bool
has_const_elements (Place p is_const) = is_const_array (place_type p) is_const
has_const_elements (Value e) = false

abbrev pub element_by : TypeTree → (is_const : Bool) → (sum : ExprTree) → Option Operand
element_by (pointer_to t) is_const e = Some (Place (place t (at e)) is_const)
element_by t is_const e = None

abbrev pub element : (is_const : Bool) → (sum : ExprTree) → Option Operand
element is_const e = element_by (type_of e) is_const e

abbrev pub index_typed : Definitions → Operand → Operand → Option Operand
index_typed defs a b = option_and_then (element (has_const_elements a || has_const_elements b)) (binary_typed defs binary_operator.Add a b)

-- ---- `.` takes a struct, and `->` a pointer to one (6.5.2.3)

abbrev pub struct_tag : TypeTree → Option ℕ
struct_tag (struct_type tag) = Some tag
struct_tag t = None

-- the operand itself, or what it points to, which is not const
abbrev pub selected : Selection → Operand → Option Operand
selected selection.Dot a = Some a
selected selection.Arrow a = option_and_then pointed (value_of a)

-- the tag of the struct whose member is named
abbrev pub selected_tag : Selection → Operand → Option ℕ
selected_tag o a = option_and_then (λ x. struct_tag (operand_type x)) (selected o a)

-- the member of a complete struct at an index, which is const where the struct is
abbrev pub member_at : Definitions → (tag index : ℕ) → PlaceTree → (is_const : Bool) → Option Operand
member_at defs tag k p is_const =
    if is_defined defs tag then option_map (λ t. Place (place t (member p (offset defs tag k))) is_const) (slice_get (members defs tag) k) else None

abbrev pub member_by : Definitions → TypeTree → (index : ℕ) → PlaceTree → (is_const : Bool) → Option Operand
member_by defs (struct_type tag) k p is_const = member_at defs tag k p is_const
member_by defs t k p is_const = None

abbrev pub member_of : Definitions → (index : ℕ) → Operand → Option Operand
member_of defs k (Place p is_const) = member_by defs (place_type p) k p is_const
member_of defs k (Value e) = None

abbrev pub member_typed : Definitions → Selection → Operand → (index : ℕ) → Option Operand
member_typed defs o a k = option_and_then (member_of defs k) (selected o a)

-- ---- a cast goes from an integer type to another, or to void (6.5.4)

abbrev pub cast_by : (from to : TypeTree) → ExprTree → Option ExprTree
cast_by (scalar_type s) (scalar_type t) e = Some (converted (scalar_type t) e)
cast_by s void_type e = Some (expr void_type (unary unary_op.Discard e))
cast_by s t e = None

abbrev pub cast_typed : (to : TypeTree) → Operand → Option ExprTree
cast_typed t a = option_and_then (λ e. cast_by (type_of e) t e) (value_of a)

-- ---- `sizeof` takes a complete type (6.5.3.4)

abbrev pub size_typed : Definitions → TypeTree → Option ExprTree
size_typed defs t = option_map (λ bytes. expr unsigned_int (constant bytes)) (laid_out_size defs t)
