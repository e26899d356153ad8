-- Assignments, `++` and `--` (ISO/IEC 9899:2011, 6.5.16, 6.5.2.4, 6.5.3.1). Their target is a scalar lvalue that is not
-- const.
use Rattle.std.specs.Prelude.{ℕ, Bool, true, false, if◌then◌else◌, Option, None, Some, option_map, option_and_then}
use Rattle.val_core.specs.declared.operation.Op2.{Op2}
use Rattle.val_core.specs.declared.operation.Op2.TheVariants as op
use Rattle.c_ast.specs.declared.operator.IncDec.{IncDec}
use Rattle.c_ast.specs.declared.operator.IncDec.TheVariants as step_operator
use Rattle.c_ast.specs.declared.operator.AssignOp.{AssignOp}
use Rattle.c_ast.specs.declared.operator.AssignOp.TheVariants as assign_operator
use Rattle.c_type.specs.Trees.{TypeTree, scalar_type, pointer_to}
use Rattle.c_type.specs.Layout.{Definitions}
use Rattle.c_typed.specs.declared.operator.CompoundOp.{CompoundOp}
use Rattle.c_typed.specs.declared.operator.CompoundOp.TheVariants as compound_op
use Rattle.c_typed.specs.Typed.{ExprTree, expr, assign, compound, inc_dec, PlaceTree}
use Rattle.c_typed.specs.WellTyped.{type_of, place_type, if_unsigned}
use Rattle.c_check_def.specs.declared.operand.Operand.{Operand}
use Rattle.c_check_def.specs.declared.operand.Operand.TheVariants.{Place, Value}
use Rattle.c_check_def.specs.Types.{is_unsigned, are_unsigned, laid_out_size}
use Rattle.c_check_def.specs.Conversions.{converted, promoted, converts}
use Rattle.c_check_def.specs.OperandValues.{is_assignable, value_of}
use Rattle.c_check_def.specs.Arithmetic.{chosen}

-- the lvalue of a target
abbrev pub target_place : Operand → Option PlaceTree
target_place (Place p is_const) = if is_assignable (Place p is_const) then Some p else None
target_place (Value e) = None

-- ---- `=`

abbrev pub plain_assigned : PlaceTree → ExprTree → Option ExprTree
plain_assigned p e = option_map (λ x. expr (place_type p) (assign p x)) (converts (place_type p) e)

-- ---- compound assignments: the operator on the target's value and the operand

abbrev pub compounded : CompoundOp → PlaceTree → ExprTree → ExprTree
compounded o p e = expr (place_type p) (compound o p e)

abbrev pub in_type : Op2 → (unsigned : Bool) → CompoundOp
in_type o unsigned = compound_op.Arithmetic o unsigned

abbrev pub integers_by : (signed unsigned : Op2) → (target operand : TypeTree) → PlaceTree → ExprTree → Option ExprTree
integers_by o u (scalar_type s) (scalar_type t) p e =
    Some (compounded (in_type (chosen o u (are_unsigned s t)) (are_unsigned s t)) p (converted (if_unsigned (are_unsigned s t)) e))
integers_by o u _ _ p e = None

abbrev pub integers : (signed unsigned : Op2) → PlaceTree → ExprTree → Option ExprTree
integers o u p e = integers_by o u (place_type p) (type_of e) p e

abbrev pub shifted_by : (signed unsigned : Op2) → (target operand : TypeTree) → PlaceTree → ExprTree → Option ExprTree
shifted_by o u (scalar_type s) (scalar_type t) p e = Some (compounded (in_type (chosen o u (is_unsigned s)) (is_unsigned s)) p (promoted t e))
shifted_by o u _ _ p e = None

abbrev pub shifted : (signed unsigned : Op2) → PlaceTree → ExprTree → Option ExprTree
shifted o u p e = shifted_by o u (place_type p) (type_of e) p e

-- a pointer, to a complete type, moves by an integer
abbrev pub moved : Option CompoundOp → PlaceTree → ExprTree → Option ExprTree
moved o p e = option_map (λ m. compounded m p e) o

abbrev pub increased_by : Definitions → (target operand : TypeTree) → PlaceTree → ExprTree → Option ExprTree
increased_by defs (pointer_to s) (scalar_type t) p e = moved (option_map compound_op.PointerPlus (laid_out_size defs s)) p e
increased_by defs s t p e = integers_by op.Add op.Add s t p e

abbrev pub decreased_by : Definitions → (target operand : TypeTree) → PlaceTree → ExprTree → Option ExprTree
decreased_by defs (pointer_to s) (scalar_type t) p e = moved (option_map compound_op.PointerMinus (laid_out_size defs s)) p e
decreased_by defs s t p e = integers_by op.Sub op.Sub s t p e

abbrev pub place_assigned : Definitions → AssignOp → PlaceTree → ExprTree → Option ExprTree
place_assigned defs assign_operator.Plain p e = plain_assigned p e
place_assigned defs assign_operator.Multiply p e = integers op.Mul op.Mul p e
place_assigned defs assign_operator.Divide p e = integers op.Div op.Divu p e
place_assigned defs assign_operator.Remainder p e = integers op.Rem op.Remu p e
place_assigned defs assign_operator.BitAnd p e = integers op.And op.And p e
place_assigned defs assign_operator.BitOr p e = integers op.Or op.Or p e
place_assigned defs assign_operator.BitXor p e = integers op.Xor op.Xor p e
place_assigned defs assign_operator.ShiftLeft p e = shifted op.Sll op.Sll p e
place_assigned defs assign_operator.ShiftRight p e = shifted op.Sra op.Srl p e
place_assigned defs assign_operator.Add p e = increased_by defs (place_type p) (type_of e) p e
place_assigned defs assign_operator.Subtract p e = decreased_by defs (place_type p) (type_of e) p e

abbrev pub assigned_typed : Definitions → AssignOp → (target : Operand) → Operand → Option ExprTree
assigned_typed defs o a b = option_and_then (λ p. option_and_then (place_assigned defs o p) (value_of b)) (target_place a)

-- ---- `++` and `--` go by 1, or by an element of a complete type

abbrev pub stepped : (up gives_old : Bool) → (by : ℕ) → PlaceTree → ExprTree
stepped up gives_old by p = expr (place_type p) (inc_dec (record { up = up; gives_old = gives_old; by = by }) p)

abbrev pub step_bytes : Definitions → TypeTree → Option ℕ
step_bytes defs (scalar_type s) = Some 1
step_bytes defs (pointer_to t) = laid_out_size defs t
step_bytes defs t = None

abbrev pub is_up : IncDec → Bool
is_up step_operator.Increment = true
is_up step_operator.Decrement = false

abbrev pub place_stepped : Definitions → (up gives_old : Bool) → PlaceTree → Option ExprTree
place_stepped defs up gives_old p = option_map (λ by. stepped up gives_old by p) (step_bytes defs (place_type p))

abbrev pub step_by : Definitions → (up gives_old : Bool) → (target : Operand) → Option ExprTree
step_by defs up gives_old a = option_and_then (place_stepped defs up gives_old) (target_place a)

-- the operator, and whether it stands after its operand
abbrev pub step_typed : Definitions → IncDec → (gives_old : Bool) → (target : Operand) → Option ExprTree
step_typed defs o gives_old a = step_by defs (is_up o) gives_old a
