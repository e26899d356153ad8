-- Conversions and conditions of numbers and addresses.
use Rattle.std.specs.Prelude.{◌≢◌, ◌↔◌, ℕ, true}
use Rattle.std.proofs.Common.{refl}
use Rattle.val_core.specs.declared.values.Value.{Value}
use Rattle.val_core.specs.declared.values.Value.TheVariants.{Num, At, Bad}
use Rattle.val_core.specs.declared.operation.Op1.{Op1}
use Rattle.val_core.specs.declared.operation.Op1.TheVariants.{Sext8, Zext8, Sext16, Zext16}
use Rattle.val_core.specs.Values.{value1}
use Rattle.c_type.specs.declared.scalar.Scalar.TheVariants.{Char, SignedChar, UnsignedChar, Short, UnsignedShort, Int, UnsignedInt}
use Rattle.c_type.specs.Trees.{void_type, scalar_type, pointer_to, array_of, struct_type}
use Rattle.c_mean.specs.State.{is_pointer}
use Rattle.c_mean.proofs.Tests.{is-not, holds-where-some, some-where-holds}
use Rattle.c_mean.specs.DefinedLaws.{MayBeKept, ConversionsFitTheWidth, ConditionsAreScalar}

-- ---- conversions

narrow : (o : Op1) (width : ℕ) → width ≢ 4 → (v : Value) → (value1 o v ≢ Bad) ↔ MayBeKept width v
narrow o width other (Num w) = (λ h. tt, λ h e. absurd cc)
narrow o width other (At b p) = (λ h. absurd (h refl), λ e. absurd (other e))
narrow o width other Bad = (λ h. absurd (h refl), λ h. absurd h)

wide : (v : Value) → (v ≢ Bad) ↔ MayBeKept 4 v
wide (Num w) = (λ h. tt, λ h e. absurd cc)
wide (At b p) = (λ h. refl, λ h e. absurd cc)
wide Bad = (λ h. absurd (h refl), λ h. absurd h)

pub conversions_fit_the_width : ConversionsFitTheWidth
conversions_fit_the_width (scalar_type Char) v = narrow Zext8 1 (λ e. absurd cc) v
conversions_fit_the_width (scalar_type UnsignedChar) v = narrow Zext8 1 (λ e. absurd cc) v
conversions_fit_the_width (scalar_type SignedChar) v = narrow Sext8 1 (λ e. absurd cc) v
conversions_fit_the_width (scalar_type UnsignedShort) v = narrow Zext16 2 (λ e. absurd cc) v
conversions_fit_the_width (scalar_type Short) v = narrow Sext16 2 (λ e. absurd cc) v
conversions_fit_the_width (scalar_type Int) v = wide v
conversions_fit_the_width (scalar_type UnsignedInt) v = wide v
conversions_fit_the_width void_type v = wide v
conversions_fit_the_width (pointer_to t) v = wide v
conversions_fit_the_width (array_of t n) v = wide v
conversions_fit_the_width (struct_type tag) v = wide v

-- ---- conditions

pub conditions_are_scalar : ConditionsAreScalar
conditions_are_scalar t (Num w) = (λ e. tt, λ h. refl)
conditions_are_scalar t (At b o) = (holds-where-some (is_pointer t) true, some-where-holds true)
conditions_are_scalar t Bad = (is-not, λ h. absurd h)
