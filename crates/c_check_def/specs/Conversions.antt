-- Conversions (ISO/IEC 9899:2011, 6.3), which stand only between different types.
use Rattle.std.specs.Prelude.{Bool, true, false, if◌then◌else◌, Option, None, Some}
use Rattle.c_type.specs.declared.scalar.Scalar.{Scalar}
use Rattle.c_type.specs.Trees.{TypeTree, scalar_type, pointer_to}
use Rattle.c_typed.specs.declared.operator.UnaryOp.TheVariants as unary_op
use Rattle.c_typed.specs.Typed.{ExprTree, expr, unary}
use Rattle.c_typed.specs.WellTyped.{type_of}
use Rattle.c_check_def.specs.Types.{same_type, promoted_type}
use Rattle.c_check_def.specs.Constants.{is_null_constant}

abbrev pub converted : (to : TypeTree) → ExprTree → ExprTree
converted t e = if same_type (type_of e) t then e else expr t (unary unary_op.Convert e)

-- an integer of this type, promoted (6.3.1.1p2)
abbrev pub promoted : Scalar → ExprTree → ExprTree
promoted s e = converted (promoted_type s) e

-- A value converts to an integer type from any integer, and to a pointer type from that type or a null constant.
abbrev pub may_convert : (from to : TypeTree) → ExprTree → Bool
may_convert (scalar_type s) (scalar_type t) e = true
may_convert (scalar_type s) (pointer_to t) e = is_null_constant e
may_convert (pointer_to s) (pointer_to t) e = same_type s t
may_convert _ _ e = false

abbrev pub converts : (to : TypeTree) → ExprTree → Option ExprTree
converts t e = if may_convert (type_of e) t e then Some (converted t e) else None
