-- The values of operands, and conversions.
use Rattle.std.proofs.Common.{◌≡◌, inr, ℕ, Bool, true, false, refl, sym, ap, ◌∙◌, subst}
use Rattle.std.proofs.lemmas.Bool.{false≢true}
use Rattle.std.specs.Prelude.{Some, if◌then◌else◌}
use Rattle.c_type.specs.declared.scalar.Scalar.{Scalar}
use Rattle.c_type.specs.Trees.{TypeTree, void_type, scalar_type, pointer_to, array_of, struct_type}
use Rattle.c_typed.specs.declared.operator.UnaryOp.TheVariants as unary_op
use Rattle.c_typed.specs.Typed.{ExprTree, expr, unary, PlaceTree, place, local, global, at, member}
use Rattle.c_typed.specs.WellTyped.{Scope, IsInteger, IsScalar, IsPromoted, if_unsigned, HasAddress, IsMemberOf, type_of, place_type, ExprIsTyped, PlaceIsTyped}
use Rattle.c_check_def.specs.declared.operand.Operand.{Operand}
use Rattle.c_check_def.specs.declared.operand.Operand.TheVariants.{Place, Value}
use Rattle.c_check_def.specs.OperandValues.{place_value, value_of, if_scalar}
use Rattle.c_check_def.specs.Types.{is_scalar, same_type, is_unsigned, promoted_type}
use Rattle.c_check_def.specs.Conversions.{converted, promoted, may_convert, converts}
use Rattle.c_check_def.proofs.lemmas.SameType.{same_type-refl, same_type-true}
use Rattle.c_check_laws.specs.TypedOperands.{IfSome, OperandIsTyped, ObjectsFit}
use Rattle.c_check_laws.proofs.Options.{if_holds}

-- ---- operands

pub member_of_struct : (c : Scope) (t u : TypeTree) (begins : ℕ) → IsMemberOf c.structs t begins u → is_scalar t ≡ false
member_of_struct c (struct_type tag) u begins h = refl
member_of_struct c void_type u begins h = absurd h
member_of_struct c (scalar_type s) u begins h = absurd h
member_of_struct c (pointer_to s) u begins h = absurd h
member_of_struct c (array_of s n) u begins h = absurd h

pub has_address : (c : Scope) (p : PlaceTree) → ObjectsFit c → PlaceIsTyped c p → is_scalar (place_type p) ≡ false → HasAddress c p
has_address c (place t (local slot)) o ty e = (ty.0, ty.1, o slot ty.0 ty.1 (ap is_scalar ty.2 ∙ e))
has_address c (place t (global k)) o ty e = tt
has_address c (place t (at e)) o ty h = tt
has_address c (place t (member p n)) o ty e = has_address c p o ty.0 (member_of_struct c (place_type p) t n ty.1)

place_value_typed : (c : Scope) (p : PlaceTree) → ObjectsFit c → PlaceIsTyped c p → IfSome (ExprIsTyped c) (place_value (place_type p) p)
place_value_typed c (place void_type f) o ty = tt
place_value_typed c (place (scalar_type s) f) o ty = (ty, refl, tt)
place_value_typed c (place (pointer_to t) f) o ty = (ty, refl, tt)
place_value_typed c (place (array_of t n) f) o ty = (ty, has_address c (place (array_of t n) f) o ty refl, inr refl)
place_value_typed c (place (struct_type tag) f) o ty = tt

pub value_typed : (c : Scope) (a : Operand) → ObjectsFit c → OperandIsTyped c a → IfSome (ExprIsTyped c) (value_of a)
value_typed c (Place p is_const) o ty = place_value_typed c p o ty
value_typed c (Value e) o ty = ty

-- ---- types

pub scalar_is : (t : TypeTree) → is_scalar t ≡ true → IsScalar t
scalar_is void_type e = absurd (cc)
scalar_is (scalar_type s) e = tt
scalar_is (pointer_to t) e = tt
scalar_is (array_of t n) e = absurd (cc)
scalar_is (struct_type tag) e = absurd (cc)

pub unsigned_promoted : (b : Bool) → IsPromoted (if_unsigned b)
unsigned_promoted true = tt
unsigned_promoted false = tt

pub promoted_scalar : (b : Bool) → IsScalar (if_unsigned b)
promoted_scalar true = tt
promoted_scalar false = tt

-- a value of integer or pointer type
pub record ScalarValue (c : Scope) (e : ExprTree) : Type 0 where
  pub typed : ExprIsTyped c e
  pub scalar : IsScalar (type_of e)

pub scalar_value : (c : Scope) (e : ExprTree) → ExprIsTyped c e → IfSome (ScalarValue c) (if_scalar e)
scalar_value c e ty = if_holds (ScalarValue c) (is_scalar (type_of e)) (Some e) (λ h. record { typed = ty; scalar = scalar_is (type_of e) h })

-- ---- conversions

-- a value of this type
pub record ValueOf (c : Scope) (t : TypeTree) (e : ExprTree) : Type 0 where
  pub typed : ExprIsTyped c e
  pub type : type_of e ≡ t

pub converted_typed : (c : Scope) (t : TypeTree) (e : ExprTree) → ExprIsTyped c e → IsInteger (type_of e) → IsScalar t → ValueOf c t (converted t e)
converted_typed c t e ty i s = by_test (same_type (type_of e) t) refl
  where
    by_test : (b : Bool) → same_type (type_of e) t ≡ b → ValueOf c t (if b then e else expr t (unary unary_op.Convert e))
    by_test true q = record { typed = ty; type = same_type-true (type_of e) t q }
    by_test false q =
        record { typed = (ty, (i, s, λ same. false≢true (sym q ∙ ap (λ u. same_type (type_of e) u) (sym same) ∙ same_type-refl (type_of e)))); type = refl }

-- of the same type nothing is converted
same_converted : (c : Scope) (t : TypeTree) (e : ExprTree) → ExprIsTyped c e → type_of e ≡ t → ValueOf c t (converted t e)
same_converted c t e ty s = subst (λ b. ValueOf c t (if b then e else expr t (unary unary_op.Convert e))) (sym (ap (λ u. same_type u t) s ∙ same_type-refl t)) (record { typed = ty; type = s })

pub promoted_typed : (c : Scope) (s : Scalar) (e : ExprTree) → ExprIsTyped c e → type_of e ≡ scalar_type s → ValueOf c (promoted_type s) (promoted s e)
promoted_typed c s e ty h = converted_typed c (promoted_type s) e ty (subst IsInteger (sym h) tt) (promoted_scalar (is_unsigned s))

convertible : (c : Scope) (s t : TypeTree) (e : ExprTree) → ExprIsTyped c e → type_of e ≡ s → may_convert s t e ≡ true → ValueOf c t (converted t e)
convertible c (scalar_type s) (scalar_type t) e ty h m = converted_typed c (scalar_type t) e ty (subst IsInteger (sym h) tt) tt
convertible c (scalar_type s) (pointer_to t) e ty h m = converted_typed c (pointer_to t) e ty (subst IsInteger (sym h) tt) tt
convertible c (pointer_to s) (pointer_to t) e ty h m = same_converted c (pointer_to t) e ty (h ∙ ap pointer_to (same_type-true s t m))
convertible c s t e ty h m = absurd (cc)

pub converts_typed : (c : Scope) (t : TypeTree) (e : ExprTree) → ExprIsTyped c e → IfSome (ValueOf c t) (converts t e)
converts_typed c t e ty = if_holds (ValueOf c t) (may_convert (type_of e) t e) (Some (converted t e)) (λ m. convertible c (type_of e) t e ty refl m)
