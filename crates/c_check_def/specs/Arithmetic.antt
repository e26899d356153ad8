-- Binary operators on integers and on pointers (ISO/IEC 9899:2011, 6.5.5 to 6.5.12), by the types of their operands.
use Rattle.std.specs.Prelude.{Bool, if◌then◌else◌, Option, None, Some, option_map}
use Rattle.val_core.specs.declared.operation.Op2.{Op2}
use Rattle.val_core.specs.declared.operation.Op2.TheVariants as op
use Rattle.c_type.specs.declared.scalar.Scalar.{Scalar}
use Rattle.c_type.specs.Trees.{TypeTree, scalar_type, pointer_to}
use Rattle.c_type.specs.Layout.{Definitions}
use Rattle.c_typed.specs.declared.operator.Relation.{Relation}
use Rattle.c_typed.specs.declared.operator.BinaryOp.{BinaryOp}
use Rattle.c_typed.specs.declared.operator.BinaryOp.TheVariants as binary_op
use Rattle.c_typed.specs.Typed.{ExprTree, expr, binary}
use Rattle.c_typed.specs.WellTyped.{int, type_of, if_unsigned}
use Rattle.c_check_def.specs.Types.{same_type, is_unsigned, are_unsigned, common_type, laid_out_size}
use Rattle.c_check_def.specs.Constants.{is_null_constant}
use Rattle.c_check_def.specs.Conversions.{converted, promoted}

-- an operation has one form for signed numbers and one for unsigned ones
abbrev pub chosen : (signed unsigned : Op2) → (is_unsigned : Bool) → Op2
chosen o u is_unsigned = if is_unsigned then u else o

-- an expression of two operands
abbrev pub two : BinaryOp → TypeTree → ExprTree → ExprTree → ExprTree
two o t a b = expr t (binary o a b)

-- one whose operator counts in elements, where these have a size
abbrev pub two_where : Option BinaryOp → TypeTree → ExprTree → ExprTree → Option ExprTree
two_where o t a b = option_map (λ p. two p t a b) o

-- ---- `*`, `/`, `%`, `&`, `|`, `^` take integers, in their common type

abbrev pub arithmetic : (signed unsigned : Op2) → (are_unsigned : Bool) → ExprTree → ExprTree → ExprTree
arithmetic o u are_unsigned a b =
    two (binary_op.Arithmetic (chosen o u are_unsigned)) (if_unsigned are_unsigned) (converted (if_unsigned are_unsigned) a) (converted (if_unsigned are_unsigned) b)

abbrev pub integers_by : (signed unsigned : Op2) → (left right : TypeTree) → ExprTree → ExprTree → Option ExprTree
integers_by o u (scalar_type s) (scalar_type t) a b = Some (arithmetic o u (are_unsigned s t) a b)
integers_by o u _ _ a b = None

abbrev pub integers : (signed unsigned : Op2) → ExprTree → ExprTree → Option ExprTree
integers o u a b = integers_by o u (type_of a) (type_of b) a b

-- ---- `<<`, `>>` take integers, in the type of the promoted left one

abbrev pub shift : (signed unsigned : Op2) → Scalar → Scalar → ExprTree → ExprTree → ExprTree
shift o u s t a b = two (binary_op.Arithmetic (chosen o u (is_unsigned s))) (if_unsigned (is_unsigned s)) (promoted s a) (promoted t b)

abbrev pub shifted_by : (signed unsigned : Op2) → (left right : TypeTree) → ExprTree → ExprTree → Option ExprTree
shifted_by o u (scalar_type s) (scalar_type t) a b = Some (shift o u s t a b)
shifted_by o u _ _ a b = None

abbrev pub shifted : (signed unsigned : Op2) → ExprTree → ExprTree → Option ExprTree
shifted o u a b = shifted_by o u (type_of a) (type_of b) a b

-- ---- `+` takes integers, or a pointer and an integer in either order

abbrev pub sum_by : Definitions → (left right : TypeTree) → ExprTree → ExprTree → Option ExprTree
sum_by defs (scalar_type s) (scalar_type t) a b = Some (arithmetic op.Add op.Add (are_unsigned s t) a b)
sum_by defs (pointer_to s) (scalar_type t) a b = two_where (option_map binary_op.PointerPlus (laid_out_size defs s)) (pointer_to s) a b
sum_by defs (scalar_type s) (pointer_to t) a b = two_where (option_map binary_op.IntegerPlus (laid_out_size defs t)) (pointer_to t) a b
sum_by defs _ _ a b = None

abbrev pub sum : Definitions → ExprTree → ExprTree → Option ExprTree
sum defs a b = sum_by defs (type_of a) (type_of b) a b

-- ---- `-` takes integers, a pointer and an integer, or two pointers of one type

abbrev pub difference_by : Definitions → (left right : TypeTree) → ExprTree → ExprTree → Option ExprTree
difference_by defs (scalar_type s) (scalar_type t) a b = Some (arithmetic op.Sub op.Sub (are_unsigned s t) a b)
difference_by defs (pointer_to s) (scalar_type t) a b = two_where (option_map binary_op.PointerMinus (laid_out_size defs s)) (pointer_to s) a b
difference_by defs (pointer_to s) (pointer_to t) a b =
    if same_type s t then two_where (option_map binary_op.PointerDifference (laid_out_size defs s)) int a b else None
difference_by defs _ _ a b = None

abbrev pub difference : Definitions → ExprTree → ExprTree → Option ExprTree
difference defs a b = difference_by defs (type_of a) (type_of b) a b

-- ---- `<`, `>`, `<=`, `>=` take integers or two pointers of one type

-- operands compared in a type
abbrev pub compared : Relation → TypeTree → ExprTree → ExprTree → ExprTree
compared r t a b = two (binary_op.Compare r) int (converted t a) (converted t b)

abbrev pub ordered_by : Relation → (left right : TypeTree) → ExprTree → ExprTree → Option ExprTree
ordered_by r (scalar_type s) (scalar_type t) a b = Some (compared r (common_type s t) a b)
ordered_by r (pointer_to s) (pointer_to t) a b = if same_type s t then Some (two (binary_op.Compare r) int a b) else None
ordered_by r _ _ a b = None

abbrev pub ordered : Relation → ExprTree → ExprTree → Option ExprTree
ordered r a b = ordered_by r (type_of a) (type_of b) a b

-- ---- `==` and `!=` take these, and also a pointer and a null constant

abbrev pub equated_by : Relation → (left right : TypeTree) → ExprTree → ExprTree → Option ExprTree
equated_by r (pointer_to s) (scalar_type t) a b = if is_null_constant b then Some (two (binary_op.Compare r) int a (converted (pointer_to s) b)) else None
equated_by r (scalar_type s) (pointer_to t) a b = if is_null_constant a then Some (two (binary_op.Compare r) int (converted (pointer_to t) a) b) else None
equated_by r s t a b = ordered_by r s t a b

abbrev pub equated : Relation → ExprTree → ExprTree → Option ExprTree
equated r a b = equated_by r (type_of a) (type_of b) a b
