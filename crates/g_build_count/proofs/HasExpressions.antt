-- How many values the construction of an expression has.
use Rattle.std.proofs.Common.{◌≡◌, ℕ, zero, suc, ◌+◌, Bool, true, false, List, [], ◌∷◌, ◌++◌, Option, Some, None, refl, ap, subst, ◌∙◌, arith}
use Rattle.std.specs.Prelude.{if◌then◌else◌}
use Rattle.val_core.specs.declared.operation.Op1.{Op1}
use Rattle.val_core.specs.declared.operation.Op1.TheVariants as op1
use Rattle.val_core.specs.declared.operation.Op2.{Op2}
use Rattle.val_core.specs.declared.operation.Op2.TheVariants as op
use Rattle.c_type.specs.declared.scalar.Scalar.TheVariants as scalar
use Rattle.c_type.specs.Trees.{TypeTree, void_type, scalar_type, pointer_to, array_of, struct_type}
use Rattle.c_typed.specs.declared.operator.Relation.{Relation}
use Rattle.c_typed.specs.declared.operator.Relation.TheVariants as relation
use Rattle.c_typed.specs.declared.operator.UnaryOp.{UnaryOp}
use Rattle.c_typed.specs.declared.operator.UnaryOp.TheVariants as unary_op
use Rattle.c_typed.specs.declared.operator.BinaryOp.{BinaryOp}
use Rattle.c_typed.specs.declared.operator.BinaryOp.TheVariants as binary_op
use Rattle.c_typed.specs.declared.operator.CompoundOp.{CompoundOp}
use Rattle.c_typed.specs.declared.operator.CompoundOp.TheVariants as compound_op
use Rattle.c_typed.specs.declared.operator.IncDec.{IncDec}
use Rattle.c_typed.specs.Typed.{ExprTree, expr, FormTree, constant, read, address, unary, binary, logical_and, logical_or, conditional, comma, assign, compound, inc_dec, call, get, ExprTrees, no_exprs, expr_then, PlaceTree, place, local, global, at, member}
use Rattle.c_typed.specs.WellTyped.{type_of, step_op}
use Rattle.g_graph.specs.declared.op.Origin.{Origin}
use Rattle.g_graph.specs.declared.op.Origin.TheVariants.{Out}
use Rattle.g_graph.specs.declared.op.Op.TheVariants.{Const, Local, Delta, Bin, Un, Load, Store, PtrEq, Apply, Put, Exit, Get}
use Rattle.g_build_def.specs.Writer.{SlotOrigin, held, object, hidden, variable_at, Point, Built, given, bind, one_value, choice}
use Rattle.g_build_def.specs.Operations.{const_made, local_made, delta_made, bin_made, un_made, ptr_eq_made, load_made, store_made, apply_made, put_made, converted_made, extended_made, read_made, is_zero_made, is_not_zero_made, is_null_made, not_made, condition_made, less_op, equal_made, not_equal_made, compared_made, moved_made, difference_made, at_offset_made}
use Rattle.c_typed.specs.Objects.{access_width}
use Rattle.g_build_def.specs.Places.{Spot, in_slot, at_address, address_spot, slot_spot, member_spot, spot_address, spot_read, spot_written}
use Rattle.g_build_def.specs.Expressions.{unary_made, binary_made, compound_made, stepped_made, conditional_extra, expr_made, form_made, tested, commas_made, arguments_made, place_made}
use Rattle.std.specs.Prelude.{slice_index_or}
use Rattle.g_build_def.specs.Writer.{variable_set, slot_origin, with_variables}
use Rattle.g_build_count.specs.Values.{converted_values, load_values, condition_values, not_equal_values, compared_values, unary_values, binary_values, compound_values, conditional_extras, is_object, in_memory, read_values, write_values, expr_values, form_values, tested_values, exprs_values, place_values}
use Rattle.g_build_count.proofs.Has.{Seen, Sees, Has, Counts, has_equal, given_has, bind_has, node_has, value_count, marks, Gives, void_value_gives, one_value_gives, choice_has}

-- ---- operations

pub const_has : (seen : Seen) (w : ℕ) → Counts 2 seen (const_made w)
const_has seen w s h = node_has 2 seen s (Const w) [] (Out s.next 0) s.carried.memory s.carried.io refl h

pub bin_has : (seen : Seen) (o : Op2) (a b : Origin) → Counts 2 seen (bin_made o a b)
bin_has seen o a b s h = node_has 2 seen s (Bin o) (a ∷ b ∷ []) (Out s.next 0) s.carried.memory s.carried.io refl h

un_has : (seen : Seen) (o : Op1) (a : Origin) → Counts 2 seen (un_made o a)
un_has seen o a s h = node_has 2 seen s (Un o) (a ∷ []) (Out s.next 0) s.carried.memory s.carried.io refl h

ptr_eq_has : (seen : Seen) (a b : Origin) → Counts 2 seen (ptr_eq_made a b)
ptr_eq_has seen a b s h = node_has 2 seen s PtrEq (a ∷ b ∷ s.carried.memory ∷ []) (Out s.next 0) s.carried.memory s.carried.io refl h

pub local_has : (seen : Seen) (k : ℕ) → Counts 2 seen (local_made k)
local_has seen k s h = node_has 2 seen s (Local k) [] (Out s.next 0) s.carried.memory s.carried.io refl h

delta_has : (seen : Seen) (k : ℕ) → Counts 2 seen (delta_made k)
delta_has seen k s h = node_has 2 seen s (Delta k) [] (Out s.next 0) s.carried.memory s.carried.io refl h

load_has : (seen : Seen) (w : ℕ) (a : Origin) → Counts 2 seen (load_made w a)
load_has seen w a s h = node_has 2 seen s (Load w) (a ∷ s.carried.memory ∷ []) (Out s.next 0) s.carried.memory s.carried.io refl h

pub store_has : (seen : Seen) (w : ℕ) (a v : Origin) → Counts 2 seen (store_made w a v)
store_has seen w a v s h = node_has 2 seen s (Store w) (a ∷ v ∷ s.carried.memory ∷ []) v (Out s.next 0) s.carried.io refl h

converted_has : (seen : Seen) (t : TypeTree) (v : Origin) → Counts (converted_values t) seen (converted_made t v)
converted_has seen (scalar_type scalar.Char) v s h = un_has seen op1.Zext8 v s h
converted_has seen (scalar_type scalar.UnsignedChar) v s h = un_has seen op1.Zext8 v s h
converted_has seen (scalar_type scalar.SignedChar) v s h = un_has seen op1.Sext8 v s h
converted_has seen (scalar_type scalar.Short) v s h = un_has seen op1.Sext16 v s h
converted_has seen (scalar_type scalar.UnsignedShort) v s h = un_has seen op1.Zext16 v s h
converted_has seen (scalar_type scalar.Int) v s h = given_has seen v s h
converted_has seen (scalar_type scalar.UnsignedInt) v s h = given_has seen v s h
converted_has seen void_type v s h = given_has seen v s h
converted_has seen (pointer_to t) v s h = given_has seen v s h
converted_has seen (array_of t n) v s h = given_has seen v s h
converted_has seen (struct_type tag) v s h = given_has seen v s h

read_has : (seen : Seen) (t : TypeTree) (a : Origin) → Counts (load_values t) seen (read_made t a)
read_has seen (scalar_type scalar.SignedChar) a s h =
    bind_has seen seen (load_made 1 a s) (extended_made (scalar_type scalar.SignedChar)) (load_has seen 1 a s h) (λ v t k. un_has seen op1.Sext8 v t k)
read_has seen (scalar_type scalar.Short) a s h =
    bind_has seen seen (load_made 2 a s) (extended_made (scalar_type scalar.Short)) (load_has seen 2 a s h) (λ v t k. un_has seen op1.Sext16 v t k)
read_has seen (scalar_type scalar.Char) a s h =
    bind_has seen seen (load_made 1 a s) (extended_made (scalar_type scalar.Char)) (load_has seen 1 a s h) (given_has seen)
read_has seen (scalar_type scalar.UnsignedChar) a s h =
    bind_has seen seen (load_made 1 a s) (extended_made (scalar_type scalar.UnsignedChar)) (load_has seen 1 a s h) (given_has seen)
read_has seen (scalar_type scalar.UnsignedShort) a s h =
    bind_has seen seen (load_made 2 a s) (extended_made (scalar_type scalar.UnsignedShort)) (load_has seen 2 a s h) (given_has seen)
read_has seen (scalar_type scalar.Int) a s h =
    bind_has seen seen (load_made 4 a s) (extended_made (scalar_type scalar.Int)) (load_has seen 4 a s h) (given_has seen)
read_has seen (scalar_type scalar.UnsignedInt) a s h =
    bind_has seen seen (load_made 4 a s) (extended_made (scalar_type scalar.UnsignedInt)) (load_has seen 4 a s h) (given_has seen)
read_has seen void_type a s h = bind_has seen seen (load_made 4 a s) (extended_made void_type) (load_has seen 4 a s h) (given_has seen)
read_has seen (pointer_to t) a s h = bind_has seen seen (load_made 4 a s) (extended_made (pointer_to t)) (load_has seen 4 a s h) (given_has seen)
read_has seen (array_of t n) a s h = bind_has seen seen (load_made 4 a s) (extended_made (array_of t n)) (load_has seen 4 a s h) (given_has seen)
read_has seen (struct_type tag) a s h = bind_has seen seen (load_made 4 a s) (extended_made (struct_type tag)) (load_has seen 4 a s h) (given_has seen)

pub is_zero_has : (seen : Seen) (v : Origin) → Counts 4 seen (is_zero_made v)
is_zero_has seen v s h = bind_has seen seen (const_made 0 s) (λ z t. bin_made op.Eq v z t) (const_has seen 0 s h) (λ z t k. bin_has seen op.Eq v z t k)

is_not_zero_has : (seen : Seen) (v : Origin) → Counts 4 seen (is_not_zero_made v)
is_not_zero_has seen v s h = bind_has seen seen (const_made 0 s) (λ z t. bin_made op.Ne v z t) (const_has seen 0 s h) (λ z t k. bin_has seen op.Ne v z t k)

is_null_has : (seen : Seen) (v : Origin) → Counts 4 seen (is_null_made v)
is_null_has seen v s h = bind_has seen seen (const_made 0 s) (λ z t. ptr_eq_made v z t) (const_has seen 0 s h) (λ z t k. ptr_eq_has seen v z t k)

not_has : (seen : Seen) (t : TypeTree) (v : Origin) → Counts 4 seen (not_made t v)
not_has seen (pointer_to t) v s h = is_null_has seen v s h
not_has seen void_type v s h = is_zero_has seen v s h
not_has seen (scalar_type t) v s h = is_zero_has seen v s h
not_has seen (array_of t n) v s h = is_zero_has seen v s h
not_has seen (struct_type tag) v s h = is_zero_has seen v s h

condition_has : (seen : Seen) (t : TypeTree) (v : Origin) → Counts (condition_values t) seen (condition_made t v)
condition_has seen (pointer_to t) v s h = bind_has seen seen (is_null_made v s) is_zero_made (is_null_has seen v s h) (is_zero_has seen)
condition_has seen void_type v s h = given_has seen v s h
condition_has seen (scalar_type t) v s h = given_has seen v s h
condition_has seen (array_of t n) v s h = given_has seen v s h
condition_has seen (struct_type tag) v s h = given_has seen v s h

equal_has : (seen : Seen) (t : TypeTree) (a b : Origin) → Counts 2 seen (equal_made t a b)
equal_has seen (pointer_to t) a b s h = ptr_eq_has seen a b s h
equal_has seen void_type a b s h = bin_has seen op.Eq a b s h
equal_has seen (scalar_type t) a b s h = bin_has seen op.Eq a b s h
equal_has seen (array_of t n) a b s h = bin_has seen op.Eq a b s h
equal_has seen (struct_type tag) a b s h = bin_has seen op.Eq a b s h

not_equal_has : (seen : Seen) (t : TypeTree) (a b : Origin) → Counts (not_equal_values t) seen (not_equal_made t a b)
not_equal_has seen (pointer_to t) a b s h = bind_has seen seen (ptr_eq_made a b s) is_zero_made (ptr_eq_has seen a b s h) (is_zero_has seen)
not_equal_has seen void_type a b s h = bin_has seen op.Ne a b s h
not_equal_has seen (scalar_type t) a b s h = bin_has seen op.Ne a b s h
not_equal_has seen (array_of t n) a b s h = bin_has seen op.Ne a b s h
not_equal_has seen (struct_type tag) a b s h = bin_has seen op.Ne a b s h

compared_has : (seen : Seen) (r : Relation) (t : TypeTree) (a b : Origin) → Counts (compared_values r t) seen (compared_made r t a b)
compared_has seen relation.Less t a b s h = bin_has seen (less_op t) a b s h
compared_has seen relation.Greater t a b s h = bin_has seen (less_op t) b a s h
compared_has seen relation.LessEqual t a b s h = bind_has seen seen (bin_made (less_op t) b a s) is_zero_made (bin_has seen (less_op t) b a s h) (is_zero_has seen)
compared_has seen relation.GreaterEqual t a b s h =
    bind_has seen seen (bin_made (less_op t) a b s) is_zero_made (bin_has seen (less_op t) a b s h) (is_zero_has seen)
compared_has seen relation.Equal t a b s h = equal_has seen t a b s h
compared_has seen relation.NotEqual t a b s h = not_equal_has seen t a b s h

moved_has : (seen : Seen) (o : Op2) (p i : Origin) (n : ℕ) → Counts 6 seen (moved_made o p i n)
moved_has seen o p i n s h =
    bind_has seen seen (const_made n s) (λ c t. bind (bin_made op.Mul i c t) (λ m u. bin_made o p m u)) (const_has seen n s h)
    (λ c t k. bind_has seen seen (bin_made op.Mul i c t) (λ m u. bin_made o p m u) (bin_has seen op.Mul i c t k) (λ m. bin_has seen o p m))

difference_has : (seen : Seen) (a b : Origin) (n : ℕ) → Counts 6 seen (difference_made a b n)
difference_has seen a b n s h =
    bind_has seen seen (bin_made op.Sub a b s) (λ d t. bind (const_made n t) (λ c u. bin_made op.Div d c u)) (bin_has seen op.Sub a b s h)
    (λ d t k. bind_has seen seen (const_made n t) (λ c u. bin_made op.Div d c u) (const_has seen n t k) (λ c. bin_has seen op.Div d c))

pub at_offset_has : (seen : Seen) (a : Origin) (n : ℕ) → Counts 4 seen (at_offset_made a n)
at_offset_has seen a n s h = bind_has seen seen (const_made n s) (λ c t. bin_made op.Add a c t) (const_has seen n s h) (λ c. bin_has seen op.Add a c)

-- ---- operations on what operands give

unary_has : (seen : Seen) (o : UnaryOp) (t u : TypeTree) (v : Origin) → Counts (unary_values o t) seen (unary_made o t u v)
unary_has seen unary_op.Convert t u v s h = converted_has seen t v s h
unary_has seen unary_op.Discard t u v s h = given_has seen v s h
unary_has seen unary_op.Negate t u v s h =
    bind_has seen seen (const_made 0 s) (λ z q. bin_made op.Sub z v q) (const_has seen 0 s h) (λ z. bin_has seen op.Sub z v)
unary_has seen unary_op.Complement t u v s h =
    bind_has seen seen (const_made 4294967295 s) (λ c q. bin_made op.Xor v c q) (const_has seen 4294967295 s h) (λ c. bin_has seen op.Xor v c)
unary_has seen unary_op.LogicalNot t u v s h = not_has seen u v s h
unary_has seen unary_op.Put t u v s h =
    bind_has seen seen (put_made v s) (un_made op1.Zext8) (node_has 2 seen s Put (v ∷ s.carried.io ∷ []) v s.carried.memory (Out s.next 0) refl h)
    (un_has seen op1.Zext8)
unary_has seen unary_op.Exit t u v s h = node_has 2 seen s Exit (v ∷ s.carried.io ∷ []) v s.carried.memory (Out s.next 0) refl h

binary_has : (seen : Seen) (o : BinaryOp) (t : TypeTree) (a b : Origin) → Counts (binary_values o t) seen (binary_made o t a b)
binary_has seen (binary_op.Arithmetic o) t a b s h = bin_has seen o a b s h
binary_has seen (binary_op.Compare r) t a b s h = compared_has seen r t a b s h
binary_has seen (binary_op.PointerPlus n) t a b s h = moved_has seen op.Add a b n s h
binary_has seen (binary_op.IntegerPlus n) t a b s h = moved_has seen op.Add b a n s h
binary_has seen (binary_op.PointerMinus n) t a b s h = moved_has seen op.Sub a b n s h
binary_has seen (binary_op.PointerDifference n) t a b s h = difference_has seen a b n s h

compound_has : (seen : Seen) (o : CompoundOp) (a b : Origin) → Counts (compound_values o) seen (compound_made o a b)
compound_has seen (compound_op.Arithmetic o unsigned) a b s h = bin_has seen o a b s h
compound_has seen (compound_op.PointerPlus n) a b s h = moved_has seen op.Add a b n s h
compound_has seen (compound_op.PointerMinus n) a b s h = moved_has seen op.Sub a b n s h

stepped_has : (seen : Seen) (i : IncDec) (v : Origin) → Counts 4 seen (stepped_made i v)
stepped_has seen i v s h = bind_has seen seen (const_made i.by s) (λ c t. bin_made (step_op i.up) v c t) (const_has seen i.by s h) (λ c. bin_has seen (step_op i.up) v c)

conditional_gives : (t : TypeTree) (p : Origin) → Gives (conditional_extra t p) (conditional_extras t)
conditional_gives void_type p = void_value_gives p
conditional_gives (scalar_type s) p = one_value_gives
conditional_gives (pointer_to t) p = one_value_gives
conditional_gives (array_of t n) p = one_value_gives
conditional_gives (struct_type tag) p = one_value_gives

-- ---- places

abbrev is_address : Spot → Bool
is_address (in_slot k) = false
is_address (at_address a) = true

-- a place of so many values, which is in memory or not
record HasSpot (n : ℕ) (i : Bool) (seen : Seen) (b : Built Spot) : Type 0 where
  has : Has n seen b
  spot : is_address b.value ≡ i

bind_spot : {B : Type 0} → {n m : ℕ} (i : Bool) (seen : Seen) (a : Built Spot) (f : Spot → Point → Built B) → HasSpot n i seen a →
    ((x : Spot) → is_address x ≡ i → Counts m seen (f x)) → Has (n + m) seen (bind a f)
bind_spot {m = m} i seen a f h k =
    bind_has seen seen a (λ _ t. f a.value t) h.has (λ _ t l. k a.value h.spot t l)

address_spot_has : {n : ℕ} (seen : Seen) (b : Built Origin) → Has n seen b → HasSpot n true seen (address_spot b)
address_spot_has {n = n} seen b h =
    let e : n + 0 ≡ n = omega arith in
    record { has = has_equal (n + 0) n seen (address_spot b) e (bind_has seen seen b (λ a t. given (at_address a) t) h (λ a t k. given_has seen (at_address a) t k)); spot = refl }

-- what is marked at a slot
abbrev is_object_at : Option SlotOrigin → Bool
is_object_at (Some (object n)) = true
is_object_at (Some (held o)) = false
is_object_at (Some (hidden o)) = false
is_object_at None = false

marked : (xs : List SlotOrigin) (k : ℕ) → is_object_at (variable_at xs k) ≡ slice_index_or (marks xs) k false
marked [] k = refl
marked (hidden o ∷ xs) k = marked xs k
marked (held o ∷ xs) zero = refl
marked (held o ∷ xs) (suc k) = marked xs k
marked (object n ∷ xs) zero = refl
marked (object n ∷ xs) (suc k) = marked xs k

slot_spot_has : (seen : Seen) (k : ℕ) (x : Option SlotOrigin) (s : Point) → Sees seen s → HasSpot (if is_object_at x then 2 else 0) (is_object_at x) seen (slot_spot k x s)
slot_spot_has seen k None s h = record { has = given_has seen (in_slot k) s h; spot = refl }
slot_spot_has seen k (Some (held o)) s h = record { has = given_has seen (in_slot k) s h; spot = refl }
slot_spot_has seen k (Some (hidden o)) s h = record { has = given_has seen (in_slot k) s h; spot = refl }
slot_spot_has seen k (Some (object n)) s h = address_spot_has seen (local_made n s) (local_has seen n s h)

spot_equal : (n : ℕ) (i j : Bool) (seen : Seen) (b : Built Spot) → i ≡ j → HasSpot (if i then n else 0) i seen b → HasSpot (if j then n else 0) j seen b
spot_equal n i j seen b e h = subst (λ x. HasSpot (if x then n else 0) x seen b) e h

member_spot_has : (seen : Seen) (i : Bool) (x : Spot) → is_address x ≡ i → (n : ℕ) (s : Point) → Sees seen s →
    HasSpot (if i then 4 else 0) i seen (member_spot x n s)
member_spot_has seen i (in_slot k) e n s h = spot_equal 4 false i seen (given (in_slot k) s) e (record { has = given_has seen (in_slot k) s h; spot = refl })
member_spot_has seen i (at_address a) e n s h =
    spot_equal 4 true i seen (member_spot (at_address a) n s) e (address_spot_has seen (at_offset_made a n s) (at_offset_has seen a n s h))

member_of_spot : {n : ℕ} (seen : Seen) (i : Bool) (o : ℕ) (a : Built Spot) → HasSpot n i seen a → HasSpot (n + (if i then 4 else 0)) i seen (bind a (λ x u. member_spot x o u))
member_of_spot seen i o a h =
    let b = member_spot_has seen i a.value h.spot o a.after h.has.sees in
    record { has = bind_spot i seen a (λ x u. member_spot x o u) h (λ x e u k. (member_spot_has seen i x e o u k).has); spot = b.spot }

spot_address_has : (seen : Seen) (x : Spot) → Counts 0 seen (spot_address x)
spot_address_has seen (in_slot k) s h = given_has seen (slot_origin (variable_at s.carried.variables k)) s h
spot_address_has seen (at_address a) s h = given_has seen a s h

spot_read_has : (seen : Seen) (i : Bool) (t : TypeTree) (x : Spot) → is_address x ≡ i → Counts (read_values i t) seen (spot_read t x)
spot_read_has seen i t (in_slot k) e s h =
    subst (λ j. Has (read_values j t) seen (spot_read t (in_slot k) s)) e (given_has seen (slot_origin (variable_at s.carried.variables k)) s h)
spot_read_has seen i t (at_address a) e s h = subst (λ j. Has (read_values j t) seen (read_made t a s)) e (read_has seen t a s h)

set_counted : (xs : List SlotOrigin) (k : ℕ) (p : Origin) → value_count (variable_set xs k p) ≡ value_count xs
set_counted [] k p = refl
set_counted (hidden o ∷ xs) k p = ap suc (set_counted xs k p)
set_counted (held o ∷ xs) zero p = refl
set_counted (held o ∷ xs) (suc k) p = ap suc (set_counted xs k p)
set_counted (object n ∷ xs) zero p = refl
set_counted (object n ∷ xs) (suc k) p = set_counted xs k p

set_marks : (xs : List SlotOrigin) (k : ℕ) (p : Origin) → marks (variable_set xs k p) ≡ marks xs
set_marks [] k p = refl
set_marks (hidden o ∷ xs) k p = set_marks xs k p
set_marks (held o ∷ xs) zero p = refl
set_marks (held o ∷ xs) (suc k) p = ap (λ bs. false ∷ bs) (set_marks xs k p)
set_marks (object n ∷ xs) zero p = refl
set_marks (object n ∷ xs) (suc k) p = ap (λ bs. true ∷ bs) (set_marks xs k p)

set_sees : (seen : Seen) (s : Point) (k : ℕ) (p : Origin) → Sees seen s → Sees seen (with_variables s (variable_set s.carried.variables k p))
set_sees seen s k p h =
    let count = set_counted s.carried.variables k p in
    let before = h.carried in
    record { carried = omega (arith, count, before); objects = set_marks s.carried.variables k p ∙ h.objects }

spot_written_has : (seen : Seen) (i : Bool) (t : TypeTree) (x : Spot) (v : Origin) → is_address x ≡ i → Counts (write_values i) seen (spot_written t x v)
spot_written_has seen i t (in_slot k) v e s h =
    subst (λ j. Has (write_values j) seen (spot_written t (in_slot k) v s)) e
    (given_has seen v (with_variables s (variable_set s.carried.variables k v)) (set_sees seen s k v h))
spot_written_has seen i t (at_address a) v e s h =
    subst (λ j. Has (write_values j) seen (store_made (access_width t) a v s)) e (store_has seen (access_width t) a v s h)

-- ---- expressions

mutual
  pub expr_has : (seen : Seen) (e : ExprTree) → Counts (expr_values seen.carried seen.objects e) seen (expr_made e)
  expr_has seen (expr t f) s h = form_has seen t f s h

  form_has : (seen : Seen) (t : TypeTree) (f : FormTree) → Counts (form_values seen.carried seen.objects t f) seen (form_made t f)
  form_has seen t (constant w) s h = const_has seen w s h
  form_has seen t (read p) s h =
      let i : Bool = in_memory seen.objects p in bind_spot i seen (place_made p s) (spot_read t) (place_has seen p s h) (λ x e. spot_read_has seen i t x e)
  form_has seen t (address p) s h =
      let n : ℕ = place_values seen.carried seen.objects p in
      let i : Bool = in_memory seen.objects p in
      let e : n + 0 ≡ n = omega arith in
      has_equal (n + 0) n seen (form_made t (address p) s) e (bind_spot i seen (place_made p s) spot_address (place_has seen p s h) (λ x e. spot_address_has seen x))
  form_has seen t (unary o e) s h = bind_has seen seen (expr_made e s) (unary_made o t (type_of e)) (expr_has seen e s h) (unary_has seen o t (type_of e))
  form_has seen t (binary o a b) s h =
      bind_has seen seen (expr_made a s) (λ x u. bind (expr_made b u) (binary_made o (type_of a) x)) (expr_has seen a s h)
      (λ x u k. bind_has seen seen (expr_made b u) (binary_made o (type_of a) x) (expr_has seen b u k) (binary_has seen o (type_of a) x))
  form_has seen t (logical_and a b) s h =
      bind_has seen seen (tested a s) (λ p u. choice one_value u p (const_made 0) (λ v. bind (tested b v) is_not_zero_made)) (tested_has seen a s h)
      (λ p u k.
      choice_has seen one_value 1 u p (const_made 0) (λ v. bind (tested b v) is_not_zero_made) one_value_gives k (const_has seen 0)
      (λ v l. bind_has seen seen (tested b v) is_not_zero_made (tested_has seen b v l) (is_not_zero_has seen)))
  form_has seen t (logical_or a b) s h =
      bind_has seen seen (tested a s) (λ p u. choice one_value u p (λ v. bind (tested b v) is_not_zero_made) (const_made 1)) (tested_has seen a s h)
      (λ p u k.
      choice_has seen one_value 1 u p (λ v. bind (tested b v) is_not_zero_made) (const_made 1) one_value_gives k
      (λ v l. bind_has seen seen (tested b v) is_not_zero_made (tested_has seen b v l) (is_not_zero_has seen)) (const_has seen 1))
  form_has seen t (conditional d a b) s h =
      bind_has seen seen (tested d s) (λ p u. choice (conditional_extra t p) u p (expr_made b) (expr_made a)) (tested_has seen d s h)
      (λ p u k.
      choice_has seen (conditional_extra t p) (conditional_extras t) u p (expr_made b) (expr_made a) (conditional_gives t p) k (expr_has seen b) (expr_has seen a))
  form_has seen t (comma es e) s h = bind_has seen seen (commas_made es s) (λ _ u. expr_made e u) (commas_have seen es s h) (λ _. expr_has seen e)
  form_has seen t (assign p e) s h =
      let i : Bool = in_memory seen.objects p in
      bind_spot i seen (place_made p s) (λ x u. bind (expr_made e u) (spot_written t x)) (place_has seen p s h)
      (λ x q u k. bind_has seen seen (expr_made e u) (spot_written t x) (expr_has seen e u k) (λ y. spot_written_has seen i t x y q))
  form_has seen t (compound o p e) s h =
      let i : Bool = in_memory seen.objects p in
      bind_spot i seen (place_made p s)
      (λ x u. bind (spot_read t x u) (λ old v. bind (expr_made e v) (λ y w. bind (compound_made o old y w) (λ new z. bind (converted_made t new z) (spot_written t x)))))
      (place_has seen p s h)
      (λ x q u k.
      bind_has seen seen (spot_read t x u)
      (λ old v. bind (expr_made e v) (λ y w. bind (compound_made o old y w) (λ new z. bind (converted_made t new z) (spot_written t x))))
      (spot_read_has seen i t x q u k)
      (λ old v l.
      bind_has seen seen (expr_made e v) (λ y w. bind (compound_made o old y w) (λ new z. bind (converted_made t new z) (spot_written t x))) (expr_has seen e v l)
      (λ y w m.
      bind_has seen seen (compound_made o old y w) (λ new z. bind (converted_made t new z) (spot_written t x)) (compound_has seen o old y w m)
      (λ new z n. bind_has seen seen (converted_made t new z) (spot_written t x) (converted_has seen t new z n) (λ c. spot_written_has seen i t x c q)))))
  form_has seen t (inc_dec d p) s h =
      let i : Bool = in_memory seen.objects p in
      bind_spot i seen (place_made p s)
      (λ x u.
      bind (spot_read t x u)
      (λ old v.
      bind (stepped_made d old v)
      (λ new w. bind (converted_made t new w) (λ c z. bind (spot_written t x c z) (λ _ y. given (if d.gives_old then old else c) y)))))
      (place_has seen p s h)
      (λ x q u k.
      bind_has seen seen (spot_read t x u)
      (λ old v.
      bind (stepped_made d old v)
      (λ new w. bind (converted_made t new w) (λ c z. bind (spot_written t x c z) (λ _ y. given (if d.gives_old then old else c) y))))
      (spot_read_has seen i t x q u k)
      (λ old v l.
      bind_has seen seen (stepped_made d old v)
      (λ new w. bind (converted_made t new w) (λ c z. bind (spot_written t x c z) (λ _ y. given (if d.gives_old then old else c) y)))
      (stepped_has seen d old v l)
      (λ new w m.
      bind_has seen seen (converted_made t new w) (λ c z. bind (spot_written t x c z) (λ _ y. given (if d.gives_old then old else c) y))
      (converted_has seen t new w m)
      (λ c z n.
      let e : write_values i + 0 ≡ write_values i = omega arith in
      has_equal (write_values i + 0) (write_values i) seen (bind (spot_written t x c z) (λ _ y. given (if d.gives_old then old else c) y)) e
      (bind_has seen seen (spot_written t x c z) (λ _ y. given (if d.gives_old then old else c) y) (spot_written_has seen i t x c q z n)
      (λ _ y r. given_has seen (if d.gives_old then old else c) y r))))))
  form_has seen t (call f es) s h =
      bind_has seen seen (arguments_made es s) (apply_made f) (arguments_have seen es s h)
      (λ os u k. node_has 4 seen u (Apply f) (os ++ u.carried.memory ∷ u.carried.io ∷ []) (Out u.next 0) (Out u.next 1) (Out u.next 2) refl k)
  form_has seen t get s h = node_has 3 seen s Get (s.carried.io ∷ []) (Out s.next 0) s.carried.memory (Out s.next 1) refl h

  pub tested_has : (seen : Seen) (e : ExprTree) → Counts (tested_values seen.carried seen.objects e) seen (tested e)
  tested_has seen (expr t f) s h = bind_has seen seen (form_made t f s) (condition_made t) (form_has seen t f s h) (condition_has seen t)

  commas_have : (seen : Seen) (es : ExprTrees) → Counts (exprs_values seen.carried seen.objects es) seen (commas_made es)
  commas_have seen no_exprs s h = given_has seen tt s h
  commas_have seen (expr_then e es) s h = bind_has seen seen (expr_made e s) (λ _ u. commas_made es u) (expr_has seen e s h) (λ _. commas_have seen es)

  arguments_have : (seen : Seen) (es : ExprTrees) → Counts (exprs_values seen.carried seen.objects es) seen (arguments_made es)
  arguments_have seen no_exprs s h = given_has seen [] s h
  arguments_have seen (expr_then e es) s h =
      let n : ℕ = exprs_values seen.carried seen.objects es in
      let q : n + 0 ≡ n = omega arith in
      bind_has seen seen (expr_made e s) (λ x u. bind (arguments_made es u) (λ xs v. given (x ∷ xs) v)) (expr_has seen e s h)
      (λ x u k.
      has_equal (n + 0) n seen (bind (arguments_made es u) (λ xs v. given (x ∷ xs) v)) q
      (bind_has seen seen (arguments_made es u) (λ xs v. given (x ∷ xs) v) (arguments_have seen es u k) (λ xs v l. given_has seen (x ∷ xs) v l)))

  place_has : (seen : Seen) (p : PlaceTree) (s : Point) → Sees seen s →
      HasSpot (place_values seen.carried seen.objects p) (in_memory seen.objects p) seen (place_made p s)
  place_has seen (place t (local k)) s h =
      spot_equal 2 (is_object_at (variable_at s.carried.variables k)) (is_object seen.objects k) seen (slot_spot k (variable_at s.carried.variables k) s)
      (marked s.carried.variables k ∙ ap (λ os. slice_index_or os k false) h.objects) (slot_spot_has seen k (variable_at s.carried.variables k) s h)
  place_has seen (place t (global k)) s h = address_spot_has seen (delta_made k s) (delta_has seen k s h)
  place_has seen (place t (at e)) s h = address_spot_has seen (expr_made e s) (expr_has seen e s h)
  place_has seen (place t (member p offset)) s h = member_of_spot seen (in_memory seen.objects p) offset (place_made p s) (place_has seen p s h)
