-- Operands that are typed.
use Rattle.std.specs.Prelude.{◌≡◌, ℕ, true, false, slice_get, Option, None, Some}
use Rattle.c_typed.specs.Typed.{VariableTree}
use Rattle.c_typed.specs.WellTyped.{Scope, HasAddress, ExprIsTyped, PlaceIsTyped}
use Rattle.c_check_def.specs.declared.operand.Operand.{Operand}
use Rattle.c_check_def.specs.declared.operand.Operand.TheVariants.{Place, Value}
use Rattle.c_check_def.specs.Types.{is_scalar}

-- what holds of what there is
abbrev pub IfSome : {A : Type 0} → (A → Type 0) → Option A → Type 0
IfSome P None = Unit {0}
IfSome P (Some x) = P x

abbrev pub OperandIsTyped : Scope → Operand → Type 0
OperandIsTyped c (Place p is_const) = PlaceIsTyped c p
OperandIsTyped c (Value e) = ExprIsTyped c e

-- a variable in scope that is no scalar is an object
abbrev pub ObjectsFit : Scope → Type 0
ObjectsFit c = (slot : ℕ) (v : VariableTree) → slice_get c.slots slot ≡ Some v → is_scalar v.type ≡ false → v.is_object ≡ true

-- an operand of `&` has an address
abbrev pub MayBeTaken : Scope → Operand → Type 0
MayBeTaken c (Place p is_const) = HasAddress c p
MayBeTaken c (Value e) = Unit {0}
