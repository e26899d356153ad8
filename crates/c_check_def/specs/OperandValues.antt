-- Operands (ISO/IEC 9899:2011, 6.3.2.1): what their values are, and which may be assigned.
use Rattle.std.specs.Prelude.{Bool, false, not, ◌&&◌, if◌then◌else◌, Option, None, Some}
use Rattle.c_type.specs.Trees.{TypeTree, scalar_type, pointer_to, array_of}
use Rattle.c_typed.specs.Typed.{ExprTree, expr, read, address, PlaceTree}
use Rattle.c_typed.specs.WellTyped.{type_of, place_type}
use Rattle.c_check_def.specs.Types.{is_scalar}
use Rattle.c_check_def.specs.declared.operand.Operand.{Operand}
use Rattle.c_check_def.specs.declared.operand.Operand.TheVariants.{Place, Value}

-- the type of an operand as it stands, under `sizeof` and `&`
abbrev pub operand_type : Operand → TypeTree
operand_type (Place p is_const) = place_type p
operand_type (Value e) = type_of e

-- An object of scalar type is read, and an array becomes the address of its first element. A structure has no value.
abbrev pub place_value : TypeTree → PlaceTree → Option ExprTree
place_value (scalar_type s) p = Some (expr (scalar_type s) (read p))
place_value (pointer_to t) p = Some (expr (pointer_to t) (read p))
place_value (array_of t n) p = Some (expr (pointer_to t) (address p))
place_value _ p = None

abbrev pub value_of : Operand → Option ExprTree
value_of (Place p is_const) = place_value (place_type p) p
value_of (Value e) = Some e

-- a condition: a value of integer or pointer type
abbrev pub if_scalar : ExprTree → Option ExprTree
if_scalar e = if is_scalar (type_of e) then Some e else None

-- A scalar lvalue may be assigned unless it is const.
abbrev pub is_assignable : Operand → Bool
is_assignable (Place p is_const) = is_scalar (place_type p) && not is_const
is_assignable (Value e) = false
