-- Binary operators, and what is like them.
use Rattle.std.proofs.Common.{◌≡◌, ◌≤◌, ℕ, Bool, true, false, refl, sym, ap, ◌∙◌, subst, arith}
use Rattle.std.specs.Prelude.{◌<◌, ◌^◌, ◌&&◌, nat_le, Option, None, Some, option_and_then, option_map}
use Rattle.std.proofs.lemmas.Bool.Decides.{nat_tests}
use Rattle.std.proofs.lemmas.Bool.{and_parts}
use Rattle.base.specs.Limits.{most_type_bytes}
use Rattle.c_ast.specs.declared.operator.BinaryOp.{BinaryOp}
use Rattle.c_ast.specs.declared.operator.BinaryOp.TheVariants as binary_operator
use Rattle.val_core.specs.declared.operation.Op2.{Op2}
use Rattle.val_core.specs.declared.operation.Op2.TheVariants as op
use Rattle.c_type.specs.Trees.{TypeTree, void_type, scalar_type, pointer_to}
use Rattle.c_type.specs.Layout.{Definitions, is_complete, size}
use Rattle.c_typed.specs.declared.operator.Relation.{Relation}
use Rattle.c_typed.specs.declared.operator.Relation.TheVariants as relation
use Rattle.c_typed.specs.declared.operator.BinaryOp.TheVariants as binary_op
use Rattle.c_typed.specs.Typed.{ExprTree, expr, logical_and, logical_or, conditional}
use Rattle.c_typed.specs.WellTyped.{Scope, int, IsInteger, IsPromoted, is_shift, Serves, IsRightOf, if_unsigned, PointsTo, IsCompared, IsScalarOrVoid, type_of, ExprIsTyped}
use Rattle.c_check_def.specs.declared.operand.Operand.{Operand}
use Rattle.c_check_def.specs.OperandValues.{value_of, if_scalar}
use Rattle.c_check_def.specs.Types.{same_type, is_unsigned, are_unsigned, laid_out_size}
use Rattle.c_check_def.specs.Constants.{is_null_constant}
use Rattle.c_check_def.specs.Conversions.{converted, promoted}
use Rattle.c_check_def.specs.Arithmetic.{chosen, two, two_where, arithmetic, integers_by, shifted_by, sum_by, difference_by, ordered_by, equated_by}
use Rattle.c_check_def.specs.Operators.{on_values, both, either, values_joined, binary_typed, choice_by, choice_of, condition_of, conditional_typed}
use Rattle.c_check_def.proofs.lemmas.SameType.{same_type-true}
use Rattle.c_check_laws.specs.TypedOperands.{IfSome, OperandIsTyped, ObjectsFit}
use Rattle.c_check_laws.proofs.Options.{and_then_holds, map_holds, if_holds}
use Rattle.c_check_laws.proofs.Values.{value_typed, unsigned_promoted, promoted_scalar, ScalarValue, scalar_value, converted_typed, promoted_typed}

-- ---- sizes

-- the size of a complete type, a word
pub record SizeOf (defs : Definitions) (t : TypeTree) (bytes : ℕ) : Type 0 where
  pub complete : is_complete defs t ≡ true
  pub same : size defs t ≡ bytes
  pub small : bytes < 2 ^ 32

pub size_found : (defs : Definitions) (t : TypeTree) → IfSome (SizeOf defs t) (laid_out_size defs t)
size_found defs t = if_holds (SizeOf defs t) (is_complete defs t && nat_le (size defs t) most_type_bytes) (Some (size defs t)) (λ h. found (and_parts (is_complete defs t)
    (nat_le (size defs t) most_type_bytes) h).0 (and_parts (is_complete defs t) (nat_le (size defs t) most_type_bytes) h).1)
  where
    found : is_complete defs t ≡ true → nat_le (size defs t) most_type_bytes ≡ true → SizeOf defs t (size defs t)
    found c l = let least : size defs t ≤ most_type_bytes = grind (arith, nat_tests, l) in record { complete = c; same = refl; small = omega (arith, least) }

-- ---- arithmetic

-- operations of two integers in their common type, signed and unsigned
pub record AreOperations (o u : Op2) : Type 0 where
  pub serves : (b : Bool) → Serves (chosen o u b) (if_unsigned b)
  pub plain : (b : Bool) → is_shift (chosen o u b) ≡ false

arithmetic_typed : (c : Scope) (o u : Op2) (b : Bool) (x y : ExprTree) → AreOperations o u → ExprIsTyped c x → ExprIsTyped c y → IsInteger (type_of x) → IsInteger (type_of y) →
    ExprIsTyped c (arithmetic o u b x y)
arithmetic_typed c o u b x y ok tx ty ix iy =
    let l = converted_typed c (if_unsigned b) x tx ix (promoted_scalar b) in
    let r = converted_typed c (if_unsigned b) y ty iy (promoted_scalar b) in
    (l.typed, r.typed, (ok.serves b, l.type, subst (λ s. IsRightOf s (if_unsigned b) (type_of (converted (if_unsigned b) y))) (sym (ok.plain b)) r.type))

integers_typed : (c : Scope) (o u : Op2) (s t : TypeTree) (x y : ExprTree) → AreOperations o u → ExprIsTyped c x → ExprIsTyped c y → type_of x ≡ s → type_of y ≡ t →
    IfSome (ExprIsTyped c) (integers_by o u s t x y)
integers_typed c o u (scalar_type s) (scalar_type t) x y ok tx ty ex ey = arithmetic_typed c o u (are_unsigned s t) x y ok tx ty (subst IsInteger (sym ex) tt) (subst IsInteger (sym ey) tt)
integers_typed c o u s t x y ok tx ty ex ey = tt

pub record AreShifts (o u : Op2) : Type 0 where
  pub serves : (b : Bool) → Serves (chosen o u b) (if_unsigned b)
  pub shifts : (b : Bool) → is_shift (chosen o u b) ≡ true

shifted_typed : (c : Scope) (o u : Op2) (s t : TypeTree) (x y : ExprTree) → AreShifts o u → ExprIsTyped c x → ExprIsTyped c y → type_of x ≡ s → type_of y ≡ t →
    IfSome (ExprIsTyped c) (shifted_by o u s t x y)
shifted_typed c o u (scalar_type s) (scalar_type t) x y ok tx ty ex ey =
    let l = promoted_typed c s x tx ex in
    let r = promoted_typed c t y ty ey in (
      l.typed,
      r.typed,
      (
        ok.serves (is_unsigned s),
        l.type,
        subst (λ q. IsRightOf q (if_unsigned (is_unsigned s)) (type_of (promoted t y))) (sym (ok.shifts (is_unsigned s)))
            (subst IsPromoted (sym r.type) (unsigned_promoted (is_unsigned t))),
      ),
    )
shifted_typed c o u s t x y ok tx ty ex ey = tt

pub mul_serves : AreOperations op.Mul op.Mul
mul_serves = record { serves = serves; plain = plain }
  where
    serves : (b : Bool) → Serves (chosen op.Mul op.Mul b) (if_unsigned b)
    serves true = tt
    serves false = tt

    plain : (b : Bool) → is_shift (chosen op.Mul op.Mul b) ≡ false
    plain true = refl
    plain false = refl

pub div_serves : AreOperations op.Div op.Divu
div_serves = record { serves = serves; plain = plain }
  where
    serves : (b : Bool) → Serves (chosen op.Div op.Divu b) (if_unsigned b)
    serves true = refl
    serves false = refl

    plain : (b : Bool) → is_shift (chosen op.Div op.Divu b) ≡ false
    plain true = refl
    plain false = refl

pub rem_serves : AreOperations op.Rem op.Remu
rem_serves = record { serves = serves; plain = plain }
  where
    serves : (b : Bool) → Serves (chosen op.Rem op.Remu b) (if_unsigned b)
    serves true = refl
    serves false = refl

    plain : (b : Bool) → is_shift (chosen op.Rem op.Remu b) ≡ false
    plain true = refl
    plain false = refl

pub and_serves : AreOperations op.And op.And
and_serves = record { serves = serves; plain = plain }
  where
    serves : (b : Bool) → Serves (chosen op.And op.And b) (if_unsigned b)
    serves true = tt
    serves false = tt

    plain : (b : Bool) → is_shift (chosen op.And op.And b) ≡ false
    plain true = refl
    plain false = refl

pub or_serves : AreOperations op.Or op.Or
or_serves = record { serves = serves; plain = plain }
  where
    serves : (b : Bool) → Serves (chosen op.Or op.Or b) (if_unsigned b)
    serves true = tt
    serves false = tt

    plain : (b : Bool) → is_shift (chosen op.Or op.Or b) ≡ false
    plain true = refl
    plain false = refl

pub xor_serves : AreOperations op.Xor op.Xor
xor_serves = record { serves = serves; plain = plain }
  where
    serves : (b : Bool) → Serves (chosen op.Xor op.Xor b) (if_unsigned b)
    serves true = tt
    serves false = tt

    plain : (b : Bool) → is_shift (chosen op.Xor op.Xor b) ≡ false
    plain true = refl
    plain false = refl

pub add_serves : AreOperations op.Add op.Add
add_serves = record { serves = serves; plain = plain }
  where
    serves : (b : Bool) → Serves (chosen op.Add op.Add b) (if_unsigned b)
    serves true = tt
    serves false = tt

    plain : (b : Bool) → is_shift (chosen op.Add op.Add b) ≡ false
    plain true = refl
    plain false = refl

pub sub_serves : AreOperations op.Sub op.Sub
sub_serves = record { serves = serves; plain = plain }
  where
    serves : (b : Bool) → Serves (chosen op.Sub op.Sub b) (if_unsigned b)
    serves true = tt
    serves false = tt

    plain : (b : Bool) → is_shift (chosen op.Sub op.Sub b) ≡ false
    plain true = refl
    plain false = refl

pub left_shifts : AreShifts op.Sll op.Sll
left_shifts = record { serves = serves; shifts = shifts }
  where
    serves : (b : Bool) → Serves (chosen op.Sll op.Sll b) (if_unsigned b)
    serves true = tt
    serves false = tt

    shifts : (b : Bool) → is_shift (chosen op.Sll op.Sll b) ≡ true
    shifts true = refl
    shifts false = refl

pub right_shifts : AreShifts op.Sra op.Srl
right_shifts = record { serves = serves; shifts = shifts }
  where
    serves : (b : Bool) → Serves (chosen op.Sra op.Srl b) (if_unsigned b)
    serves true = refl
    serves false = refl

    shifts : (b : Bool) → is_shift (chosen op.Sra op.Srl b) ≡ true
    shifts true = refl
    shifts false = refl

-- ---- pointers

points_to : (defs : Definitions) (t s : TypeTree) (bytes : ℕ) → t ≡ pointer_to s → SizeOf defs s bytes → PointsTo defs t bytes
points_to defs t s bytes e h = subst (λ u. PointsTo defs u bytes) (sym e) (h.complete, h.same)

sum_typed : (c : Scope) (s t : TypeTree) (x y : ExprTree) → ExprIsTyped c x → ExprIsTyped c y → type_of x ≡ s → type_of y ≡ t → IfSome (ExprIsTyped c) (sum_by c.structs s t x y)
sum_typed c (scalar_type s) (scalar_type t) x y tx ty ex ey =
    arithmetic_typed c op.Add op.Add (are_unsigned s t) x y add_serves tx ty (subst IsInteger (sym ex) tt) (subst IsInteger (sym ey) tt)
sum_typed c (pointer_to s) (scalar_type t) x y tx ty ex ey = plus (laid_out_size c.structs s) (size_found c.structs s)
  where
    plus : (o : Option ℕ) → IfSome (SizeOf c.structs s) o → IfSome (ExprIsTyped c) (two_where (option_map binary_op.PointerPlus o) (pointer_to s) x y)
    plus None h = tt
    plus (Some n) h = (tx, ty, ((h.complete, h.same), ex, subst IsInteger (sym ey) tt))
sum_typed c (scalar_type s) (pointer_to t) x y tx ty ex ey = plus (laid_out_size c.structs t) (size_found c.structs t)
  where
    plus : (o : Option ℕ) → IfSome (SizeOf c.structs t) o → IfSome (ExprIsTyped c) (two_where (option_map binary_op.IntegerPlus o) (pointer_to t) x y)
    plus None h = tt
    plus (Some n) h = (tx, ty, ((h.complete, h.same), subst IsInteger (sym ex) tt, ey))
sum_typed c s t x y tx ty ex ey = tt

difference_typed : (c : Scope) (s t : TypeTree) (x y : ExprTree) → ExprIsTyped c x → ExprIsTyped c y → type_of x ≡ s → type_of y ≡ t → IfSome (ExprIsTyped c) (difference_by c.structs s t x y)
difference_typed c (scalar_type s) (scalar_type t) x y tx ty ex ey =
    arithmetic_typed c op.Sub op.Sub (are_unsigned s t) x y sub_serves tx ty (subst IsInteger (sym ex) tt) (subst IsInteger (sym ey) tt)
difference_typed c (pointer_to s) (scalar_type t) x y tx ty ex ey = minus (laid_out_size c.structs s) (size_found c.structs s)
  where
    minus : (o : Option ℕ) → IfSome (SizeOf c.structs s) o → IfSome (ExprIsTyped c) (two_where (option_map binary_op.PointerMinus o) (pointer_to s) x y)
    minus None h = tt
    minus (Some n) h = (tx, ty, ((h.complete, h.same), ex, subst IsInteger (sym ey) tt))
difference_typed c (pointer_to s) (pointer_to t) x y tx ty ex ey =
    if_holds (ExprIsTyped c) (same_type s t) (two_where (option_map binary_op.PointerDifference (laid_out_size c.structs s)) int x y) (λ e.
    minus (laid_out_size c.structs s) (size_found c.structs s) (ey ∙ ap pointer_to (sym (same_type-true s t e)) ∙ sym ex))
  where
    minus : (o : Option ℕ) → IfSome (SizeOf c.structs s) o → type_of y ≡ type_of x → IfSome (ExprIsTyped c) (two_where (option_map binary_op.PointerDifference o) int x y)
    minus None h e = tt
    minus (Some n) h e = (tx, ty, (refl, points_to c.structs (type_of x) s n ex h, e))
difference_typed c s t x y tx ty ex ey = tt

-- ---- comparisons

promoted_compared : (b : Bool) → IsCompared (if_unsigned b)
promoted_compared true = tt
promoted_compared false = tt

pointer_compared : (t s : TypeTree) → t ≡ pointer_to s → IsCompared t
pointer_compared t s e = subst IsCompared (sym e) tt

ordered_typed : (c : Scope) (r : Relation) (s t : TypeTree) (x y : ExprTree) → ExprIsTyped c x → ExprIsTyped c y → type_of x ≡ s → type_of y ≡ t → IfSome (ExprIsTyped c) (ordered_by r s t x y)
ordered_typed c r (scalar_type s) (scalar_type t) x y tx ty ex ey =
    let b = are_unsigned s t in
    let l = converted_typed c (if_unsigned b) x tx (subst IsInteger (sym ex) tt) (promoted_scalar b) in
    let q = converted_typed c (if_unsigned b) y ty (subst IsInteger (sym ey) tt) (promoted_scalar b) in
    (l.typed, q.typed, (refl, subst IsCompared (sym l.type) (promoted_compared b), q.type ∙ sym l.type))
ordered_typed c r (pointer_to s) (pointer_to t) x y tx ty ex ey =
    if_holds (ExprIsTyped c) (same_type s t) (Some (two (binary_op.Compare r) int x y)) (λ e.
    (tx, ty, (refl, pointer_compared (type_of x) s ex, ey ∙ ap pointer_to (sym (same_type-true s t e)) ∙ sym ex)))
ordered_typed c r s t x y tx ty ex ey = tt

equated_typed : (c : Scope) (r : Relation) (s t : TypeTree) (x y : ExprTree) → ExprIsTyped c x → ExprIsTyped c y → type_of x ≡ s → type_of y ≡ t → IfSome (ExprIsTyped c) (equated_by r s t x y)
equated_typed c r (pointer_to s) (scalar_type t) x y tx ty ex ey =
    if_holds (ExprIsTyped c) (is_null_constant y) (Some (two (binary_op.Compare r) int x (converted (pointer_to s) y))) (λ e.
    let q = converted_typed c (pointer_to s) y ty (subst IsInteger (sym ey) tt) tt in (tx, q.typed, (refl, pointer_compared (type_of x) s ex, q.type ∙ sym ex)))
equated_typed c r (scalar_type s) (pointer_to t) x y tx ty ex ey =
    if_holds (ExprIsTyped c) (is_null_constant x) (Some (two (binary_op.Compare r) int (converted (pointer_to t) x) y)) (λ e.
    let l = converted_typed c (pointer_to t) x tx (subst IsInteger (sym ex) tt) tt in (l.typed, ty, (refl, pointer_compared (type_of (converted (pointer_to t) x)) t l.type, ey ∙ sym l.type)))
equated_typed c r s t x y tx ty ex ey = ordered_typed c r s t x y tx ty ex ey

-- ---- `&&` and `||`

both_typed : (c : Scope) (x y : ExprTree) → ExprIsTyped c x → ExprIsTyped c y → IfSome (ExprIsTyped c) (both x y)
both_typed c x y tx ty =
    and_then_holds (ScalarValue c) (ExprIsTyped c) (λ x. option_map (λ y. expr int (logical_and x y)) (if_scalar y)) (if_scalar x) (scalar_value c x tx) (λ a p.
    map_holds (ScalarValue c) (ExprIsTyped c) (λ y. expr int (logical_and a y)) (if_scalar y) (scalar_value c y ty) (λ b q. (p.typed, q.typed, p.scalar, q.scalar, refl)))

either_typed : (c : Scope) (x y : ExprTree) → ExprIsTyped c x → ExprIsTyped c y → IfSome (ExprIsTyped c) (either x y)
either_typed c x y tx ty =
    and_then_holds (ScalarValue c) (ExprIsTyped c) (λ x. option_map (λ y. expr int (logical_or x y)) (if_scalar y)) (if_scalar x) (scalar_value c x tx) (λ a p.
    map_holds (ScalarValue c) (ExprIsTyped c) (λ y. expr int (logical_or a y)) (if_scalar y) (scalar_value c y ty) (λ b q. (p.typed, q.typed, p.scalar, q.scalar, refl)))

-- ---- binary operators

joined_typed : (c : Scope) (o : BinaryOp) (x y : ExprTree) → ExprIsTyped c x → ExprIsTyped c y → IfSome (ExprIsTyped c) (values_joined c.structs o x y)
joined_typed c binary_operator.Multiply x y tx ty = integers_typed c op.Mul op.Mul (type_of x) (type_of y) x y mul_serves tx ty refl refl
joined_typed c binary_operator.Divide x y tx ty = integers_typed c op.Div op.Divu (type_of x) (type_of y) x y div_serves tx ty refl refl
joined_typed c binary_operator.Remainder x y tx ty = integers_typed c op.Rem op.Remu (type_of x) (type_of y) x y rem_serves tx ty refl refl
joined_typed c binary_operator.BitAnd x y tx ty = integers_typed c op.And op.And (type_of x) (type_of y) x y and_serves tx ty refl refl
joined_typed c binary_operator.BitOr x y tx ty = integers_typed c op.Or op.Or (type_of x) (type_of y) x y or_serves tx ty refl refl
joined_typed c binary_operator.BitXor x y tx ty = integers_typed c op.Xor op.Xor (type_of x) (type_of y) x y xor_serves tx ty refl refl
joined_typed c binary_operator.ShiftLeft x y tx ty = shifted_typed c op.Sll op.Sll (type_of x) (type_of y) x y left_shifts tx ty refl refl
joined_typed c binary_operator.ShiftRight x y tx ty = shifted_typed c op.Sra op.Srl (type_of x) (type_of y) x y right_shifts tx ty refl refl
joined_typed c binary_operator.Add x y tx ty = sum_typed c (type_of x) (type_of y) x y tx ty refl refl
joined_typed c binary_operator.Subtract x y tx ty = difference_typed c (type_of x) (type_of y) x y tx ty refl refl
joined_typed c binary_operator.Less x y tx ty = ordered_typed c relation.Less (type_of x) (type_of y) x y tx ty refl refl
joined_typed c binary_operator.Greater x y tx ty = ordered_typed c relation.Greater (type_of x) (type_of y) x y tx ty refl refl
joined_typed c binary_operator.LessEqual x y tx ty = ordered_typed c relation.LessEqual (type_of x) (type_of y) x y tx ty refl refl
joined_typed c binary_operator.GreaterEqual x y tx ty = ordered_typed c relation.GreaterEqual (type_of x) (type_of y) x y tx ty refl refl
joined_typed c binary_operator.Equal x y tx ty = equated_typed c relation.Equal (type_of x) (type_of y) x y tx ty refl refl
joined_typed c binary_operator.NotEqual x y tx ty = equated_typed c relation.NotEqual (type_of x) (type_of y) x y tx ty refl refl
joined_typed c binary_operator.And x y tx ty = both_typed c x y tx ty
joined_typed c binary_operator.Or x y tx ty = either_typed c x y tx ty

on_values_typed : (c : Scope) (f : ExprTree → ExprTree → Option ExprTree) (a b : Operand) → ObjectsFit c → OperandIsTyped c a → OperandIsTyped c b →
    ((x y : ExprTree) → ExprIsTyped c x → ExprIsTyped c y → IfSome (ExprIsTyped c) (f x y)) → IfSome (ExprIsTyped c) (on_values f a b)
on_values_typed c f a b o ta tb h =
    and_then_holds (ExprIsTyped c) (ExprIsTyped c) (λ x. option_and_then (f x) (value_of b)) (value_of a) (value_typed c a o ta) (λ x tx.
    and_then_holds (ExprIsTyped c) (ExprIsTyped c) (f x) (value_of b) (value_typed c b o tb) (λ y ty. h x y tx ty))

pub binary_is_typed : (c : Scope) (o : BinaryOp) (a b : Operand) → ObjectsFit c → OperandIsTyped c a → OperandIsTyped c b → IfSome (ExprIsTyped c) (binary_typed c.structs o a b)
binary_is_typed c o a b fit ta tb = on_values_typed c (values_joined c.structs o) a b fit ta tb (joined_typed c o)

-- ---- `?:`

choice_typed : (c : Scope) (s t : TypeTree) (d x y : ExprTree) → ScalarValue c d → ExprIsTyped c x → ExprIsTyped c y → type_of x ≡ s → type_of y ≡ t → IfSome (ExprIsTyped c) (choice_by s t d x y)
choice_typed c (scalar_type s) (scalar_type t) d x y h tx ty ex ey =
    let b = are_unsigned s t in
    let l = converted_typed c (if_unsigned b) x tx (subst IsInteger (sym ex) tt) (promoted_scalar b) in
    let r = converted_typed c (if_unsigned b) y ty (subst IsInteger (sym ey) tt) (promoted_scalar b) in
    (h.typed, l.typed, r.typed, h.scalar, l.type, r.type, scalar_or_void b)
  where
    scalar_or_void : (b : Bool) → IsScalarOrVoid (if_unsigned b)
    scalar_or_void true = tt
    scalar_or_void false = tt
choice_typed c (pointer_to s) (pointer_to t) d x y h tx ty ex ey =
    if_holds (ExprIsTyped c) (same_type s t) (Some (expr (pointer_to s) (conditional d x y))) (λ e. (h.typed, tx, ty, h.scalar, ex, ey ∙ ap pointer_to (sym (same_type-true s t e)), tt))
choice_typed c (pointer_to s) (scalar_type t) d x y h tx ty ex ey =
    if_holds (ExprIsTyped c) (is_null_constant y) (Some (expr (pointer_to s) (conditional d x (converted (pointer_to s) y)))) (λ e.
    let r = converted_typed c (pointer_to s) y ty (subst IsInteger (sym ey) tt) tt in (h.typed, tx, r.typed, h.scalar, ex, r.type, tt))
choice_typed c (scalar_type s) (pointer_to t) d x y h tx ty ex ey =
    if_holds (ExprIsTyped c) (is_null_constant x) (Some (expr (pointer_to t) (conditional d (converted (pointer_to t) x) y))) (λ e.
    let l = converted_typed c (pointer_to t) x tx (subst IsInteger (sym ex) tt) tt in (h.typed, l.typed, ty, h.scalar, l.type, ey, tt))
choice_typed c void_type void_type d x y h tx ty ex ey = (h.typed, tx, ty, h.scalar, ex, ey, tt)
choice_typed c s t d x y h tx ty ex ey = tt

pub condition_typed : (c : Scope) (a : Operand) → ObjectsFit c → OperandIsTyped c a → IfSome (ScalarValue c) (condition_of a)
condition_typed c a o ta = and_then_holds (ExprIsTyped c) (ScalarValue c) if_scalar (value_of a) (value_typed c a o ta) (λ x tx. scalar_value c x tx)

pub conditional_is_typed : (c : Scope) (d a b : Operand) → ObjectsFit c → OperandIsTyped c d → OperandIsTyped c a → OperandIsTyped c b → IfSome (ExprIsTyped c) (conditional_typed d a b)
conditional_is_typed c d a b o td ta tb =
    and_then_holds (ScalarValue c) (ExprIsTyped c) (λ d. on_values (choice_of d) a b) (condition_of d) (condition_typed c d o td) (λ e h.
    on_values_typed c (choice_of e) a b o ta tb (λ x y tx ty. choice_typed c (type_of x) (type_of y) e x y h tx ty refl refl))
