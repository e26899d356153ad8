-- Assignments, `++` and `--`.
use Rattle.std.proofs.Common.{◌≡◌, ℕ, Bool, refl, sym, subst}
use Rattle.std.specs.Prelude.{not, Option, None, Some, option_and_then, option_map}
use Rattle.std.proofs.lemmas.Bool.{and_parts}
use Rattle.c_ast.specs.declared.operator.IncDec.{IncDec}
use Rattle.c_ast.specs.declared.operator.AssignOp.{AssignOp}
use Rattle.c_ast.specs.declared.operator.AssignOp.TheVariants as assign_operator
use Rattle.val_core.specs.declared.operation.Op2.{Op2}
use Rattle.val_core.specs.declared.operation.Op2.TheVariants as op
use Rattle.c_type.specs.Trees.{TypeTree, scalar_type, pointer_to}
use Rattle.c_typed.specs.declared.operator.CompoundOp.TheVariants as compound_op
use Rattle.c_typed.specs.Typed.{ExprTree, expr, assign, PlaceTree}
use Rattle.c_typed.specs.WellTyped.{Scope, IsInteger, IsScalar, IsPromoted, IsRightOf, if_unsigned, PointsTo, IncDecFits, type_of, place_type, ExprIsTyped, PlaceIsTyped}
use Rattle.c_check_def.specs.declared.operand.Operand.{Operand}
use Rattle.c_check_def.specs.declared.operand.Operand.TheVariants.{Place, Value}
use Rattle.c_check_def.specs.OperandValues.{value_of, is_assignable}
use Rattle.c_check_def.specs.Types.{is_scalar, is_unsigned, are_unsigned, laid_out_size}
use Rattle.c_check_def.specs.Conversions.{converted, promoted, converts}
use Rattle.c_check_def.specs.Assignments.{target_place, plain_assigned, integers_by, shifted_by, moved, increased_by, decreased_by, place_assigned, assigned_typed, stepped, step_bytes, is_up, place_stepped, step_typed}
use Rattle.c_check_laws.specs.TypedOperands.{IfSome, OperandIsTyped, ObjectsFit}
use Rattle.c_check_laws.proofs.Options.{and_then_holds, map_holds, if_holds}
use Rattle.c_check_laws.proofs.Values.{value_typed, scalar_is, unsigned_promoted, promoted_scalar, ValueOf, converted_typed, promoted_typed, converts_typed}
use Rattle.c_check_laws.proofs.Binary.{SizeOf, size_found, AreOperations, AreShifts, mul_serves, div_serves, rem_serves, and_serves, or_serves, xor_serves, add_serves, sub_serves, left_shifts, right_shifts}

-- a scalar place
record Target (c : Scope) (p : PlaceTree) : Type 0 where
  typed : PlaceIsTyped c p
  scalar : IsScalar (place_type p)

target_typed : (c : Scope) (a : Operand) → OperandIsTyped c a → IfSome (Target c) (target_place a)
target_typed c (Place p is_const) ty =
    if_holds (Target c) (is_assignable (Place p is_const)) (Some p) (λ h. record { typed = ty; scalar = scalar_is (place_type p) (and_parts (is_scalar (place_type p)) (not is_const) h).0 })
target_typed c (Value e) ty = tt

plain_typed : (c : Scope) (p : PlaceTree) (e : ExprTree) → Target c p → ExprIsTyped c e → IfSome (ExprIsTyped c) (plain_assigned p e)
plain_typed c p e h ty =
    map_holds (ValueOf c (place_type p)) (ExprIsTyped c) (λ x. expr (place_type p) (assign p x)) (converts (place_type p) e) (converts_typed c (place_type p) e ty)
    (λ x v. (h.typed, v.typed, refl, v.type, h.scalar))

integers_typed : (c : Scope) (o u : Op2) (s t : TypeTree) (p : PlaceTree) (e : ExprTree) → AreOperations o u → Target c p → ExprIsTyped c e → place_type p ≡ s → type_of e ≡ t →
    IfSome (ExprIsTyped c) (integers_by o u s t p e)
integers_typed c o u (scalar_type s) (scalar_type t) p e ok h ty ep ee =
    let b = are_unsigned s t in
    let r = converted_typed c (if_unsigned b) e ty (subst IsInteger (sym ee) tt) (promoted_scalar b) in
    (h.typed, r.typed, refl, (subst IsInteger (sym ep) tt, ok.serves b, subst (λ q. IsRightOf q (if_unsigned b) (type_of (converted (if_unsigned b) e))) (sym (ok.plain b)) r.type))
integers_typed c o u s t p e ok h ty ep ee = tt

shifted_typed : (c : Scope) (o u : Op2) (s t : TypeTree) (p : PlaceTree) (e : ExprTree) → AreShifts o u → Target c p → ExprIsTyped c e → place_type p ≡ s → type_of e ≡ t →
    IfSome (ExprIsTyped c) (shifted_by o u s t p e)
shifted_typed c o u (scalar_type s) (scalar_type t) p e ok h ty ep ee =
    let r = promoted_typed c t e ty ee in (
      h.typed,
      r.typed,
      refl,
      (
        subst IsInteger (sym ep) tt,
        ok.serves (is_unsigned s),
        subst (λ q. IsRightOf q (if_unsigned (is_unsigned s)) (type_of (promoted t e))) (sym (ok.shifts (is_unsigned s))) (subst IsPromoted (sym r.type) (unsigned_promoted (is_unsigned t))),
      ),
    )
shifted_typed c o u s t p e ok h ty ep ee = tt

increased_typed : (c : Scope) (s t : TypeTree) (p : PlaceTree) (e : ExprTree) → Target c p → ExprIsTyped c e → place_type p ≡ s → type_of e ≡ t →
    IfSome (ExprIsTyped c) (increased_by c.structs s t p e)
increased_typed c (pointer_to s) (scalar_type t) p e h ty ep ee = plus (laid_out_size c.structs s) (size_found c.structs s)
  where
    plus : (o : Option ℕ) → IfSome (SizeOf c.structs s) o → IfSome (ExprIsTyped c) (moved (option_map compound_op.PointerPlus o) p e)
    plus None q = tt
    plus (Some n) q = (h.typed, ty, refl, (subst (λ u. PointsTo c.structs u n) (sym ep) (q.complete, q.same), subst IsInteger (sym ee) tt))
increased_typed c s t p e h ty ep ee = integers_typed c op.Add op.Add s t p e add_serves h ty ep ee

decreased_typed : (c : Scope) (s t : TypeTree) (p : PlaceTree) (e : ExprTree) → Target c p → ExprIsTyped c e → place_type p ≡ s → type_of e ≡ t →
    IfSome (ExprIsTyped c) (decreased_by c.structs s t p e)
decreased_typed c (pointer_to s) (scalar_type t) p e h ty ep ee = minus (laid_out_size c.structs s) (size_found c.structs s)
  where
    minus : (o : Option ℕ) → IfSome (SizeOf c.structs s) o → IfSome (ExprIsTyped c) (moved (option_map compound_op.PointerMinus o) p e)
    minus None q = tt
    minus (Some n) q = (h.typed, ty, refl, (subst (λ u. PointsTo c.structs u n) (sym ep) (q.complete, q.same), subst IsInteger (sym ee) tt))
decreased_typed c s t p e h ty ep ee = integers_typed c op.Sub op.Sub s t p e sub_serves h ty ep ee

place_assigned_typed : (c : Scope) (o : AssignOp) (p : PlaceTree) (e : ExprTree) → Target c p → ExprIsTyped c e → IfSome (ExprIsTyped c) (place_assigned c.structs o p e)
place_assigned_typed c assign_operator.Plain p e h ty = plain_typed c p e h ty
place_assigned_typed c assign_operator.Multiply p e h ty = integers_typed c op.Mul op.Mul (place_type p) (type_of e) p e mul_serves h ty refl refl
place_assigned_typed c assign_operator.Divide p e h ty = integers_typed c op.Div op.Divu (place_type p) (type_of e) p e div_serves h ty refl refl
place_assigned_typed c assign_operator.Remainder p e h ty = integers_typed c op.Rem op.Remu (place_type p) (type_of e) p e rem_serves h ty refl refl
place_assigned_typed c assign_operator.BitAnd p e h ty = integers_typed c op.And op.And (place_type p) (type_of e) p e and_serves h ty refl refl
place_assigned_typed c assign_operator.BitOr p e h ty = integers_typed c op.Or op.Or (place_type p) (type_of e) p e or_serves h ty refl refl
place_assigned_typed c assign_operator.BitXor p e h ty = integers_typed c op.Xor op.Xor (place_type p) (type_of e) p e xor_serves h ty refl refl
place_assigned_typed c assign_operator.ShiftLeft p e h ty = shifted_typed c op.Sll op.Sll (place_type p) (type_of e) p e left_shifts h ty refl refl
place_assigned_typed c assign_operator.ShiftRight p e h ty = shifted_typed c op.Sra op.Srl (place_type p) (type_of e) p e right_shifts h ty refl refl
place_assigned_typed c assign_operator.Add p e h ty = increased_typed c (place_type p) (type_of e) p e h ty refl refl
place_assigned_typed c assign_operator.Subtract p e h ty = decreased_typed c (place_type p) (type_of e) p e h ty refl refl

pub assigned_is_typed : (c : Scope) (o : AssignOp) (a b : Operand) → ObjectsFit c → OperandIsTyped c a → OperandIsTyped c b → IfSome (ExprIsTyped c) (assigned_typed c.structs o a b)
assigned_is_typed c o a b fit ta tb =
    and_then_holds (Target c) (ExprIsTyped c) (λ p. option_and_then (place_assigned c.structs o p) (value_of b)) (target_place a) (target_typed c a ta) (λ p h.
    and_then_holds (ExprIsTyped c) (ExprIsTyped c) (place_assigned c.structs o p) (value_of b) (value_typed c b fit tb) (λ e ty. place_assigned_typed c o p e h ty))

-- ---- steps

steps_fit : (c : Scope) (t u : TypeTree) → t ≡ u → IfSome (λ by. IncDecFits c.structs by t) (step_bytes c.structs u)
steps_fit c t (scalar_type s) e = subst (IncDecFits c.structs 1) (sym e) refl
steps_fit c t (pointer_to u) e = by_size (laid_out_size c.structs u) (size_found c.structs u)
  where
    by_size : (o : Option ℕ) → IfSome (SizeOf c.structs u) o → IfSome (λ by. IncDecFits c.structs by t) o
    by_size None q = tt
    by_size (Some n) q = subst (IncDecFits c.structs n) (sym e) (q.complete, q.same)
steps_fit c t u e = tt

place_stepped_typed : (c : Scope) (up gives_old : Bool) (p : PlaceTree) → Target c p → IfSome (ExprIsTyped c) (place_stepped c.structs up gives_old p)
place_stepped_typed c up gives_old p h =
    map_holds (λ by. IncDecFits c.structs by (place_type p)) (ExprIsTyped c) (λ by. stepped up gives_old by p) (step_bytes c.structs (place_type p)) (steps_fit c (place_type p) (place_type p) refl)
    (λ by q. (h.typed, refl, q))

pub step_is_typed : (c : Scope) (o : IncDec) (gives_old : Bool) (a : Operand) → OperandIsTyped c a → IfSome (ExprIsTyped c) (step_typed c.structs o gives_old a)
step_is_typed c o gives_old a ty =
    and_then_holds (Target c) (ExprIsTyped c) (place_stepped c.structs (is_up o) gives_old) (target_place a) (target_typed c a ty) (λ p h. place_stepped_typed c (is_up o) gives_old p h)
