-- The nodes of operations.
use Rattle.std.proofs.Common.{◌≡◌, ◌<◌, ℕ, ◌+◌, ◌-◌, suc, true, List, [], ◌∷◌, ◌++◌, length, replicate, refl, sym, arith, subst}
use Rattle.val_core.specs.declared.operation.Op1.{Op1}
use Rattle.val_core.specs.declared.operation.Op1.TheVariants.{Sext8, Zext8, Sext16, Zext16}
use Rattle.val_core.specs.declared.operation.Op2.{Op2}
use Rattle.val_core.specs.declared.operation.Op2.TheVariants as op
use Rattle.c_type.specs.declared.scalar.Scalar.{Scalar}
use Rattle.c_type.specs.declared.scalar.Scalar.TheVariants.{Char, SignedChar, UnsignedChar, Short, UnsignedShort, Int, UnsignedInt}
use Rattle.c_type.specs.Trees.{TypeTree, void_type, scalar_type, pointer_to, array_of, struct_type}
use Rattle.c_typed.specs.declared.operator.Relation.{Relation}
use Rattle.c_typed.specs.declared.operator.Relation.TheVariants.{Less, Greater, LessEqual, GreaterEqual, Equal, NotEqual}
use Rattle.c_typed.specs.Objects.{access_width}
use Rattle.g_graph.specs.declared.op.Kind.TheVariants.{Value, Memory, Io}
use Rattle.g_graph.specs.declared.op.Origin.{Origin}
use Rattle.g_graph.specs.declared.op.Origin.TheVariants.{Out}
use Rattle.g_graph.specs.declared.op.Op.TheVariants.{Const, Undef, Local, Delta, Bin, Un, Load, Store, Clear, PtrEq, Apply, Put, Exit, Get}
use Rattle.g_graph.specs.Lists.{HasCallee}
use Rattle.g_graph.specs.WellFormed.{is_width}
use Rattle.g_build_keeps.specs.Formation.{Standing, HasAll}
use Rattle.g_build_def.specs.Writer.{Point, Built, given, bind}
use Rattle.g_build_def.specs.Operations.{const_made, undef_made, local_made, delta_made, bin_made, un_made, load_made, ptr_eq_made, store_made, clear_made, apply_made, put_made, exit_made, get_made, converted_made, extended_made, read_made, is_zero_made, is_not_zero_made, is_null_made, not_made, condition_made, less_op, equal_made, not_equal_made, compared_made, moved_made, difference_made, at_offset_made}
use Rattle.g_build_keeps.proofs.Stands.{Frame, IsValue, Grown, NoValue, Stands, Done, Made, kind_new, has_append}
use Rattle.g_build_keeps.proofs.Parts.{then_made, given_made, node_made, value_made}

-- ---- nodes

pub const_ok : (f : Frame) (c : Standing) (s : Point) (w : ℕ) → Stands f c s → Made f IsValue c (const_made w s)
const_ok f c s w h = value_made f c s (Const w) [] h tt refl tt tt

pub undef_ok : (f : Frame) (c : Standing) (s : Point) → Stands f c s → Made f IsValue c (undef_made s)
undef_ok f c s h = value_made f c s Undef [] h tt refl tt tt

pub local_ok : (f : Frame) (c : Standing) (s : Point) (k : ℕ) → Stands f c s → k < f.objects → Made f IsValue c (local_made k s)
local_ok f c s k h l = value_made f c s (Local k) [] h tt refl l tt

pub delta_ok : (f : Frame) (c : Standing) (s : Point) (k : ℕ) → Stands f c s → k < f.globals → Made f IsValue c (delta_made k s)
delta_ok f c s k h l = value_made f c s (Delta k) [] h tt refl l tt

pub bin_ok : (f : Frame) (c : Standing) (s : Point) (o : Op2) (a b : Origin) → Stands f c s → IsValue c a → IsValue c b → Made f IsValue c (bin_made o a b s)
bin_ok f c s o a b h x y = value_made f c s (Bin o) (a ∷ b ∷ []) h tt refl tt (x, (y, tt))

pub un_ok : (f : Frame) (c : Standing) (s : Point) (o : Op1) (a : Origin) → Stands f c s → IsValue c a → Made f IsValue c (un_made o a s)
un_ok f c s o a h x = value_made f c s (Un o) (a ∷ []) h tt refl tt (x, tt)

load_ok : (f : Frame) (c : Standing) (s : Point) (w : ℕ) (a : Origin) → Stands f c s → is_width w ≡ true → IsValue c a → Made f IsValue c (load_made w a s)
load_ok f c s w a h l x = value_made f c s (Load w) (a ∷ s.carried.memory ∷ []) h tt refl l (x, (h.memory, tt))

ptr_eq_ok : (f : Frame) (c : Standing) (s : Point) (a b : Origin) → Stands f c s → IsValue c a → IsValue c b → Made f IsValue c (ptr_eq_made a b s)
ptr_eq_ok f c s a b h x y = value_made f c s PtrEq (a ∷ b ∷ s.carried.memory ∷ []) h tt refl tt (x, (y, (h.memory, tt)))

pub store_ok : (f : Frame) (c : Standing) (s : Point) (w : ℕ) (a v : Origin) → Stands f c s → is_width w ≡ true → IsValue c a → IsValue c v → Made f IsValue c (store_made w a v s)
store_ok f c s w a v h l x y =
    node_made f IsValue c s (Store w) (a ∷ v ∷ s.carried.memory ∷ []) v (Out s.next 0) s.carried.io h tt l (x, (y, (h.memory, tt)))
    (λ g. record { memory = (kind_new c s.next (Memory ∷ []) (suc s.next) 0, refl); io = (g s.carried.io Io h.io.0, h.io.1); value = g v Value y })

pub clear_ok : (f : Frame) (c : Standing) (s : Point) (k : ℕ) → Stands f c s → k < f.objects → Made f NoValue c (clear_made k s)
clear_ok f c s k h l =
    node_made f NoValue c s (Clear k) (s.carried.memory ∷ []) tt (Out s.next 0) s.carried.io h tt l (h.memory, tt)
    (λ g. record { memory = (kind_new c s.next (Memory ∷ []) (suc s.next) 0, refl); io = (g s.carried.io Io h.io.0, h.io.1); value = tt })

pub put_ok : (f : Frame) (c : Standing) (s : Point) (v : Origin) → Stands f c s → IsValue c v → Made f IsValue c (put_made v s)
put_ok f c s v h x =
    node_made f IsValue c s Put (v ∷ s.carried.io ∷ []) v s.carried.memory (Out s.next 0) h tt tt (x, (h.io, tt))
    (λ g. record { memory = (g s.carried.memory Memory h.memory.0, h.memory.1); io = (kind_new c s.next (Io ∷ []) (suc s.next) 0, refl); value = g v Value x })

pub exit_ok : (f : Frame) (c : Standing) (s : Point) (v : Origin) → Stands f c s → IsValue c v → Made f IsValue c (exit_made v s)
exit_ok f c s v h x =
    node_made f IsValue c s Exit (v ∷ s.carried.io ∷ []) v s.carried.memory (Out s.next 0) h tt tt (x, (h.io, tt))
    (λ g. record { memory = (g s.carried.memory Memory h.memory.0, h.memory.1); io = (kind_new c s.next (Io ∷ []) (suc s.next) 0, refl); value = g v Value x })

pub get_ok : (f : Frame) (c : Standing) (s : Point) → Stands f c s → Made f IsValue c (get_made s)
get_ok f c s h =
    node_made f IsValue c s Get (s.carried.io ∷ []) (Out s.next 0) s.carried.memory (Out s.next 1) h tt tt (h.io, tt)
    (λ g. record {
      memory = (g s.carried.memory Memory h.memory.0, h.memory.1);
      io = (kind_new c s.next (Value ∷ Io ∷ []) (suc s.next) 1, refl);
      value = kind_new c s.next (Value ∷ Io ∷ []) (suc s.next) 0;
    })

-- ---- calls

abbrev pub AreValues : Standing → List Origin → Type 0
AreValues c [] = Unit {0}
AreValues c (o ∷ os) = IsValue c o × AreValues c os

pub values_grown : (c d : Standing) (os : List Origin) → Grown c d → AreValues c os → AreValues d os
values_grown c d [] g h = tt
values_grown c d (o ∷ os) g h = (g o Value h.0, values_grown c d os g h.1)

values_have : (c : Standing) (os : List Origin) → AreValues c os → HasAll c (replicate (length os) Value) os
values_have c [] h = tt
values_have c (o ∷ os) h = (h.0, values_have c os h.1)

more_length : (os : List Origin) (m i : Origin) → length (os ++ m ∷ i ∷ []) ≡ length os + 2
more_length [] m i = refl
more_length (o ∷ os) m i = let e = more_length os m i in omega (arith, e)

pub apply_ok : (f : Frame) (c : Standing) (s : Point) (k : ℕ) (os : List Origin) → Stands f c s → HasCallee f.lambdas k (length os + 2) → AreValues c os → Made f IsValue c (apply_made k os s)
apply_ok f c s k os h callee values =
    let n = more_length os s.carried.memory s.carried.io in
    let least : length (os ++ s.carried.memory ∷ s.carried.io ∷ []) - 2 ≡ length os = omega (arith, n) in
    node_made f IsValue c s (Apply k) (os ++ s.carried.memory ∷ s.carried.io ∷ []) (Out s.next 0) (Out s.next 1) (Out s.next 2) h tt (subst (HasCallee f.lambdas k) (sym n) callee)
    (subst (λ j. HasAll c (replicate j Value ++ Memory ∷ Io ∷ []) (os ++ s.carried.memory ∷ s.carried.io ∷ [])) (sym least)
    (has_append c (replicate (length os) Value) (Memory ∷ Io ∷ []) os (s.carried.memory ∷ s.carried.io ∷ []) (values_have c os values) (h.memory, (h.io, tt))))
    (λ g. record {
      memory = (kind_new c s.next (Value ∷ Memory ∷ Io ∷ []) (suc s.next) 1, refl);
      io = (kind_new c s.next (Value ∷ Memory ∷ Io ∷ []) (suc s.next) 2, refl);
      value = kind_new c s.next (Value ∷ Memory ∷ Io ∷ []) (suc s.next) 0;
    })

-- ---- types

scalar_width : (t : Scalar) → is_width (access_width (scalar_type t)) ≡ true
scalar_width Char = refl
scalar_width SignedChar = refl
scalar_width UnsignedChar = refl
scalar_width Short = refl
scalar_width UnsignedShort = refl
scalar_width Int = refl
scalar_width UnsignedInt = refl

pub is_access_width : (t : TypeTree) → is_width (access_width t) ≡ true
is_access_width void_type = refl
is_access_width (scalar_type t) = scalar_width t
is_access_width (pointer_to t) = refl
is_access_width (array_of t n) = refl
is_access_width (struct_type k) = refl

same_value : (f : Frame) (c : Standing) (s : Point) (v : Origin) → Stands f c s → IsValue c v → Made f IsValue c (given v s)
same_value f c s v h x = given_made f IsValue c s v h x

pub converted_ok : (f : Frame) (c : Standing) (s : Point) (t : TypeTree) (v : Origin) → Stands f c s → IsValue c v → Made f IsValue c (converted_made t v s)
converted_ok f c s (scalar_type Char) v h x = un_ok f c s Zext8 v h x
converted_ok f c s (scalar_type UnsignedChar) v h x = un_ok f c s Zext8 v h x
converted_ok f c s (scalar_type SignedChar) v h x = un_ok f c s Sext8 v h x
converted_ok f c s (scalar_type Short) v h x = un_ok f c s Sext16 v h x
converted_ok f c s (scalar_type UnsignedShort) v h x = un_ok f c s Zext16 v h x
converted_ok f c s t v h x = same_value f c s v h x

extended_ok : (f : Frame) (c : Standing) (s : Point) (t : TypeTree) (v : Origin) → Stands f c s → IsValue c v → Made f IsValue c (extended_made t v s)
extended_ok f c s (scalar_type SignedChar) v h x = un_ok f c s Sext8 v h x
extended_ok f c s (scalar_type Short) v h x = un_ok f c s Sext16 v h x
extended_ok f c s t v h x = same_value f c s v h x

-- one operation on what another gives
pub value_then : (f : Frame) (c : Standing) (a : Built Origin) (k : Origin → Point → Built Origin) → Made f IsValue c a →
    ((d : Standing) → Done f IsValue c a d → Made f IsValue d (k a.value a.after)) →
    Made f IsValue c (bind a k)
value_then f c a k h then = then_made f IsValue IsValue c a k h then

pub read_ok : (f : Frame) (c : Standing) (s : Point) (t : TypeTree) (a : Origin) → Stands f c s → IsValue c a → Made f IsValue c (read_made t a s)
read_ok f c s t a h x =
    let b = load_made (access_width t) a s in
    value_then f c b (extended_made t) (load_ok f c s (access_width t) a h (is_access_width t) x) (λ d y. extended_ok f d b.after t b.value y.stands y.value)

-- ---- tests

const_then_bin : (f : Frame) (c : Standing) (s : Point) (w : ℕ) (o : Op2) (v : Origin) → Stands f c s → IsValue c v → Made f IsValue c (bind (const_made w s) (λ z t. bin_made o v z t))
const_then_bin f c s w o v h x =
    let z = const_made w s in value_then f c z (λ z t. bin_made o v z t) (const_ok f c s w h) (λ d y. bin_ok f d z.after o v z.value y.stands (y.grown v Value x) y.value)

pub is_zero_ok : (f : Frame) (c : Standing) (s : Point) (v : Origin) → Stands f c s → IsValue c v → Made f IsValue c (is_zero_made v s)
is_zero_ok f c s v h x = const_then_bin f c s 0 op.Eq v h x

pub is_not_zero_ok : (f : Frame) (c : Standing) (s : Point) (v : Origin) → Stands f c s → IsValue c v → Made f IsValue c (is_not_zero_made v s)
is_not_zero_ok f c s v h x = const_then_bin f c s 0 op.Ne v h x

is_null_ok : (f : Frame) (c : Standing) (s : Point) (v : Origin) → Stands f c s → IsValue c v → Made f IsValue c (is_null_made v s)
is_null_ok f c s v h x =
    let z = const_made 0 s in value_then f c z (λ z t. ptr_eq_made v z t) (const_ok f c s 0 h) (λ d y. ptr_eq_ok f d z.after v z.value y.stands (y.grown v Value x) y.value)

pub not_ok : (f : Frame) (c : Standing) (s : Point) (t : TypeTree) (v : Origin) → Stands f c s → IsValue c v → Made f IsValue c (not_made t v s)
not_ok f c s (pointer_to t) v h x = is_null_ok f c s v h x
not_ok f c s t v h x = is_zero_ok f c s v h x

pub condition_ok : (f : Frame) (c : Standing) (s : Point) (t : TypeTree) (v : Origin) → Stands f c s → IsValue c v → Made f IsValue c (condition_made t v s)
condition_ok f c s (pointer_to t) v h x =
    let b = is_null_made v s in value_then f c b is_zero_made (is_null_ok f c s v h x) (λ d y. is_zero_ok f d b.after b.value y.stands y.value)
condition_ok f c s t v h x = same_value f c s v h x

-- ---- comparisons

equal_ok : (f : Frame) (c : Standing) (s : Point) (t : TypeTree) (a b : Origin) → Stands f c s → IsValue c a → IsValue c b → Made f IsValue c (equal_made t a b s)
equal_ok f c s (pointer_to t) a b h x y = ptr_eq_ok f c s a b h x y
equal_ok f c s t a b h x y = bin_ok f c s op.Eq a b h x y

not_equal_ok : (f : Frame) (c : Standing) (s : Point) (t : TypeTree) (a b : Origin) → Stands f c s → IsValue c a → IsValue c b → Made f IsValue c (not_equal_made t a b s)
not_equal_ok f c s (pointer_to t) a b h x y =
    let r = ptr_eq_made a b s in value_then f c r is_zero_made (ptr_eq_ok f c s a b h x y) (λ d z. is_zero_ok f d r.after r.value z.stands z.value)
not_equal_ok f c s t a b h x y = bin_ok f c s op.Ne a b h x y

less_then_zero : (f : Frame) (c : Standing) (s : Point) (t : TypeTree) (a b : Origin) → Stands f c s → IsValue c a → IsValue c b → Made f IsValue c (bind (bin_made (less_op t) a b s) is_zero_made)
less_then_zero f c s t a b h x y =
    let r = bin_made (less_op t) a b s in value_then f c r is_zero_made (bin_ok f c s (less_op t) a b h x y) (λ d z. is_zero_ok f d r.after r.value z.stands z.value)

pub compared_ok : (f : Frame) (c : Standing) (s : Point) (r : Relation) (t : TypeTree) (a b : Origin) → Stands f c s → IsValue c a → IsValue c b → Made f IsValue c (compared_made r t a b s)
compared_ok f c s Less t a b h x y = bin_ok f c s (less_op t) a b h x y
compared_ok f c s Greater t a b h x y = bin_ok f c s (less_op t) b a h y x
compared_ok f c s LessEqual t a b h x y = less_then_zero f c s t b a h y x
compared_ok f c s GreaterEqual t a b h x y = less_then_zero f c s t a b h x y
compared_ok f c s Equal t a b h x y = equal_ok f c s t a b h x y
compared_ok f c s NotEqual t a b h x y = not_equal_ok f c s t a b h x y

-- ---- pointers

pub moved_ok : (f : Frame) (c : Standing) (s : Point) (o : Op2) (p i : Origin) (n : ℕ) → Stands f c s → IsValue c p → IsValue c i → Made f IsValue c (moved_made o p i n s)
moved_ok f c s o p i n h x y =
    let k = const_made n s in
    value_then f c k (λ k t. bind (bin_made op.Mul i k t) (λ m u. bin_made o p m u)) (const_ok f c s n h) (λ d z.
    let m = bin_made op.Mul i k.value k.after in
    value_then f d m (λ m u. bin_made o p m u) (bin_ok f d k.after op.Mul i k.value z.stands (z.grown i Value y) z.value)
    (λ e w. bin_ok f e m.after o p m.value w.stands (w.grown p Value (z.grown p Value x)) w.value))

pub difference_ok : (f : Frame) (c : Standing) (s : Point) (a b : Origin) (n : ℕ) → Stands f c s → IsValue c a → IsValue c b → Made f IsValue c (difference_made a b n s)
difference_ok f c s a b n h x y =
    let m = bin_made op.Sub a b s in
    value_then f c m (λ d t. bind (const_made n t) (λ k u. bin_made op.Div d k u)) (bin_ok f c s op.Sub a b h x y) (λ d z.
    const_then_bin f d m.after n op.Div m.value z.stands z.value)

pub at_offset_ok : (f : Frame) (c : Standing) (s : Point) (a : Origin) (n : ℕ) → Stands f c s → IsValue c a → Made f IsValue c (at_offset_made a n s)
at_offset_ok f c s a n h x = const_then_bin f c s n op.Add a h x
