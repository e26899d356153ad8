-- Unary operators, places, casts, sizes and commas.
use Rattle.std.proofs.Common.{◌≡◌, inl, ℕ, Bool, refl, sym, subst}
use Rattle.std.specs.Prelude.{◌||◌, slice_get, Option, None, Some, option_map}
use Rattle.c_ast.specs.declared.operator.Selection.{Selection}
use Rattle.c_ast.specs.declared.operator.Selection.TheVariants as selection
use Rattle.c_ast.specs.declared.operator.UnaryOp.{UnaryOp}
use Rattle.c_ast.specs.declared.operator.UnaryOp.TheVariants as unary_operator
use Rattle.c_ast.specs.declared.operator.BinaryOp.TheVariants as binary_operator
use Rattle.c_type.specs.Trees.{TypeTree, void_type, scalar_type, pointer_to, array_of, struct_type}
use Rattle.c_type.specs.Layout.{is_defined, offset, members}
use Rattle.c_typed.specs.declared.operator.UnaryOp.TheVariants as unary_op
use Rattle.c_typed.specs.Typed.{ExprTree, expr, constant, unary, PlaceTree, place, member}
use Rattle.c_typed.specs.WellTyped.{Scope, int, unsigned_int, IsInteger, IsAddressOf, IsMemberOf, type_of, place_type, ExprIsTyped, PlaceIsTyped}
use Rattle.c_check_def.specs.declared.operand.Operand.{Operand}
use Rattle.c_check_def.specs.declared.operand.Operand.TheVariants.{Place, Value}
use Rattle.c_check_def.specs.OperandValues.{value_of, if_scalar}
use Rattle.c_check_def.specs.Types.{is_unsigned, laid_out_size}
use Rattle.c_check_def.specs.Operators.{plus_by, minus_by, complement_by, negation, pointed_by, pointed, value_joined, address_of, unary_typed, has_const_elements, element_by, element, index_typed, selected, member_by, member_of, member_typed, cast_by, cast_typed, size_typed, binary_typed}
use Rattle.c_check_laws.specs.TypedOperands.{IfSome, OperandIsTyped, ObjectsFit, MayBeTaken}
use Rattle.c_check_laws.proofs.Options.{and_then_holds, map_holds, if_holds}
use Rattle.c_check_laws.proofs.Values.{value_typed, unsigned_promoted, ScalarValue, scalar_value, converted_typed, promoted_typed}
use Rattle.c_check_laws.proofs.Binary.{SizeOf, size_found, binary_is_typed}

-- what there is, is that
pub found : {A : Type 0} → (o : Option A) → IfSome (λ x. o ≡ Some x) o
found None = tt
found (Some x) = refl

-- ---- unary operators

plus_typed : (c : Scope) (t : TypeTree) (e : ExprTree) → ExprIsTyped c e → type_of e ≡ t → IfSome (ExprIsTyped c) (plus_by t e)
plus_typed c (scalar_type s) e ty h = (promoted_typed c s e ty h).typed
plus_typed c t e ty h = tt

minus_typed : (c : Scope) (t : TypeTree) (e : ExprTree) → ExprIsTyped c e → type_of e ≡ t → IfSome (ExprIsTyped c) (minus_by t e)
minus_typed c (scalar_type s) e ty h = let p = promoted_typed c s e ty h in (p.typed, (unsigned_promoted (is_unsigned s), p.type))
minus_typed c t e ty h = tt

complement_typed : (c : Scope) (t : TypeTree) (e : ExprTree) → ExprIsTyped c e → type_of e ≡ t → IfSome (ExprIsTyped c) (complement_by t e)
complement_typed c (scalar_type s) e ty h = let p = promoted_typed c s e ty h in (p.typed, (unsigned_promoted (is_unsigned s), p.type))
complement_typed c t e ty h = tt

negation_typed : (c : Scope) (e : ExprTree) → ExprIsTyped c e → IfSome (ExprIsTyped c) (negation e)
negation_typed c e ty = map_holds (ScalarValue c) (ExprIsTyped c) (λ x. expr int (unary unary_op.LogicalNot x)) (if_scalar e) (scalar_value c e ty) (λ x h. (h.typed, (refl, h.scalar)))

pointed_typed : (c : Scope) (t : TypeTree) (e : ExprTree) → ExprIsTyped c e → type_of e ≡ t → IfSome (OperandIsTyped c) (pointed_by t e)
pointed_typed c (pointer_to t) e ty h = (ty, h)
pointed_typed c t e ty h = tt

as_value : (c : Scope) (o : Option ExprTree) → IfSome (ExprIsTyped c) o → IfSome (OperandIsTyped c) (option_map Value o)
as_value c o h = map_holds (ExprIsTyped c) (OperandIsTyped c) Value o h (λ x ty. ty)

value_joined_typed : (c : Scope) (o : UnaryOp) (e : ExprTree) → ExprIsTyped c e → IfSome (OperandIsTyped c) (value_joined o e)
value_joined_typed c unary_operator.Deref e ty = pointed_typed c (type_of e) e ty refl
value_joined_typed c unary_operator.Plus e ty = as_value c (plus_by (type_of e) e) (plus_typed c (type_of e) e ty refl)
value_joined_typed c unary_operator.Minus e ty = as_value c (minus_by (type_of e) e) (minus_typed c (type_of e) e ty refl)
value_joined_typed c unary_operator.BitNot e ty = as_value c (complement_by (type_of e) e) (complement_typed c (type_of e) e ty refl)
value_joined_typed c unary_operator.Not e ty = as_value c (negation e) (negation_typed c e ty)
value_joined_typed c unary_operator.AddressOf e ty = tt

is_address : (t : TypeTree) → IsAddressOf (pointer_to t) t
is_address void_type = refl
is_address (scalar_type s) = refl
is_address (pointer_to t) = refl
is_address (array_of t n) = inl refl
is_address (struct_type tag) = refl

address_typed : (c : Scope) (a : Operand) → OperandIsTyped c a → MayBeTaken c a → IfSome (OperandIsTyped c) (address_of a)
address_typed c (Place p is_const) ty h = (ty, h, is_address (place_type p))
address_typed c (Value e) ty h = tt

pub unary_is_typed : (c : Scope) (o : UnaryOp) (a : Operand) → ObjectsFit c → OperandIsTyped c a → (o ≡ unary_operator.AddressOf → MayBeTaken c a) → IfSome (OperandIsTyped c) (unary_typed o a)
unary_is_typed c unary_operator.AddressOf a fit ty taken = address_typed c a ty (taken refl)
unary_is_typed c o a fit ty taken = and_then_holds (ExprIsTyped c) (OperandIsTyped c) (value_joined o) (value_of a) (value_typed c a fit ty) (λ e te. value_joined_typed c o e te)

-- ---- elements and members

element_typed : (c : Scope) (t : TypeTree) (is_const : Bool) (e : ExprTree) → ExprIsTyped c e → type_of e ≡ t → IfSome (OperandIsTyped c) (element_by t is_const e)
element_typed c (pointer_to t) is_const e ty h = (ty, h)
element_typed c t is_const e ty h = tt

pub index_is_typed : (c : Scope) (a b : Operand) → ObjectsFit c → OperandIsTyped c a → OperandIsTyped c b → IfSome (OperandIsTyped c) (index_typed c.structs a b)
index_is_typed c a b fit ta tb =
    and_then_holds (ExprIsTyped c) (OperandIsTyped c) (element (has_const_elements a || has_const_elements b)) (binary_typed c.structs binary_operator.Add a b)
    (binary_is_typed c binary_operator.Add a b fit ta tb)
    (λ e ty. element_typed c (type_of e) (has_const_elements a || has_const_elements b) e ty refl)

selected_typed : (c : Scope) (o : Selection) (a : Operand) → ObjectsFit c → OperandIsTyped c a → IfSome (OperandIsTyped c) (selected o a)
selected_typed c selection.Dot a fit ty = ty
selected_typed c selection.Arrow a fit ty = and_then_holds (ExprIsTyped c) (OperandIsTyped c) pointed (value_of a) (value_typed c a fit ty) (λ e te. pointed_typed c (type_of e) e te refl)

member_by_typed : (c : Scope) (t : TypeTree) (k : ℕ) (p : PlaceTree) (is_const : Bool) → PlaceIsTyped c p → place_type p ≡ t → IfSome (OperandIsTyped c) (member_by c.structs t k p is_const)
member_by_typed c (struct_type tag) k p is_const ty h =
    if_holds (OperandIsTyped c) (is_defined c.structs tag) (option_map (λ t. Place (place t (member p (offset c.structs tag k))) is_const) (slice_get (members c.structs tag) k)) (λ q.
    map_holds (λ t. slice_get (members c.structs tag) k ≡ Some t) (OperandIsTyped c) (λ t. Place (place t (member p (offset c.structs tag k))) is_const) (slice_get (members c.structs tag) k)
    (found (slice_get (members c.structs tag) k)) (λ t e.
    (ty, subst (λ u. IsMemberOf c.structs u (offset c.structs tag k) t) (sym h) (record { index = k; there = e; stands = refl }))))
member_by_typed c t k p is_const ty h = tt

member_of_typed : (c : Scope) (k : ℕ) (a : Operand) → OperandIsTyped c a → IfSome (OperandIsTyped c) (member_of c.structs k a)
member_of_typed c k (Place p is_const) ty = member_by_typed c (place_type p) k p is_const ty refl
member_of_typed c k (Value e) ty = tt

pub member_is_typed : (c : Scope) (o : Selection) (a : Operand) (k : ℕ) → ObjectsFit c → OperandIsTyped c a → IfSome (OperandIsTyped c) (member_typed c.structs o a k)
member_is_typed c o a k fit ty = and_then_holds (OperandIsTyped c) (OperandIsTyped c) (member_of c.structs k) (selected o a) (selected_typed c o a fit ty) (λ b tb. member_of_typed c k b tb)

-- ---- casts and sizes

cast_by_typed : (c : Scope) (s t : TypeTree) (e : ExprTree) → ExprIsTyped c e → type_of e ≡ s → IfSome (ExprIsTyped c) (cast_by s t e)
cast_by_typed c (scalar_type s) (scalar_type t) e ty h = (converted_typed c (scalar_type t) e ty (subst IsInteger (sym h) tt) tt).typed
cast_by_typed c s void_type e ty h = (ty, refl)
cast_by_typed c s t e ty h = tt

pub cast_is_typed : (c : Scope) (t : TypeTree) (a : Operand) → ObjectsFit c → OperandIsTyped c a → IfSome (ExprIsTyped c) (cast_typed t a)
cast_is_typed c t a fit ty = and_then_holds (ExprIsTyped c) (ExprIsTyped c) (λ e. cast_by (type_of e) t e) (value_of a) (value_typed c a fit ty) (λ e te. cast_by_typed c (type_of e) t e te refl)

pub size_is_typed : (c : Scope) (t : TypeTree) → IfSome (ExprIsTyped c) (size_typed c.structs t)
size_is_typed c t = map_holds (SizeOf c.structs t) (ExprIsTyped c) (λ bytes. expr unsigned_int (constant bytes)) (laid_out_size c.structs t) (size_found c.structs t) (λ n h. (tt, h.small))
