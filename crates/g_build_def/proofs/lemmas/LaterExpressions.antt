-- Expressions keep what is carried.
use Rattle.std.proofs.Common.{ℕ, List, [], ◌∷◌, ◌++◌, Option, Some, None}
use Rattle.std.specs.Prelude.{if◌then◌else◌}
use Rattle.val_core.specs.declared.operation.Op1.{Op1}
use Rattle.val_core.specs.declared.operation.Op1.TheVariants as op1
use Rattle.val_core.specs.declared.operation.Op2.{Op2}
use Rattle.val_core.specs.declared.operation.Op2.TheVariants as op
use Rattle.c_type.specs.declared.scalar.Scalar.TheVariants as scalar
use Rattle.c_type.specs.Trees.{TypeTree, void_type, scalar_type, pointer_to, array_of, struct_type}
use Rattle.c_typed.specs.declared.operator.Relation.{Relation}
use Rattle.c_typed.specs.declared.operator.Relation.TheVariants as relation
use Rattle.c_typed.specs.declared.operator.UnaryOp.{UnaryOp}
use Rattle.c_typed.specs.declared.operator.UnaryOp.TheVariants as unary_op
use Rattle.c_typed.specs.declared.operator.BinaryOp.{BinaryOp}
use Rattle.c_typed.specs.declared.operator.BinaryOp.TheVariants as binary_op
use Rattle.c_typed.specs.declared.operator.CompoundOp.{CompoundOp}
use Rattle.c_typed.specs.declared.operator.CompoundOp.TheVariants as compound_op
use Rattle.c_typed.specs.declared.operator.IncDec.{IncDec}
use Rattle.c_typed.specs.Typed.{ExprTree, expr, FormTree, constant, read, address, unary, binary, logical_and, logical_or, conditional, comma, assign, compound, inc_dec, call, get, ExprTrees, no_exprs, expr_then, PlaceTree, place, PlaceFormTree, local, global, at, member}
use Rattle.c_typed.specs.WellTyped.{type_of, step_op}
use Rattle.g_graph.specs.declared.op.Origin.{Origin}
use Rattle.g_graph.specs.declared.op.Origin.TheVariants.{Out}
use Rattle.g_graph.specs.declared.op.Op.{Op}
use Rattle.g_graph.specs.declared.op.Op.TheVariants.{Const, Local, Delta, Bin, Un, Load, Store, PtrEq, Apply, Put, Exit, Get}
use Rattle.g_build_def.specs.Writer.{SlotOrigin, held, object, hidden, variable_at, Point, Built, given, bind, one_value, choice}
use Rattle.g_build_def.specs.Operations.{value_node, const_made, local_made, delta_made, bin_made, un_made, ptr_eq_made, load_made, store_made, apply_made, put_made, converted_made, extended_made, read_made, is_zero_made, is_not_zero_made, is_null_made, not_made, condition_made, less_op, equal_made, not_equal_made, compared_made, moved_made, difference_made, at_offset_made}
use Rattle.c_typed.specs.Objects.{access_width}
use Rattle.g_build_def.specs.Places.{Spot, in_slot, at_address, address_spot, slot_spot, member_spot, spot_address, spot_read, spot_written}
use Rattle.g_build_def.specs.Expressions.{unary_made, binary_made, compound_made, stepped_made, conditional_extra, expr_made, form_made, tested, commas_made, arguments_made, place_made, place_form_made}
use Rattle.g_build_def.specs.Laws.{Later}
use Rattle.g_build_def.proofs.lemmas.Later.{Keeps, later_here, bind_later, node_later, choice_later, set_later}

-- ---- operations

value_later : (s : Point) (o : Op) (inputs : List Origin) → Later s (value_node s o inputs).after
value_later s o inputs = node_later s o inputs (Out s.next 0) s.carried.memory s.carried.io

pub const_later : (w : ℕ) → Keeps (const_made w)
const_later w s = value_later s (Const w) []

pub bin_later : (o : Op2) (a b : Origin) → Keeps (bin_made o a b)
bin_later o a b s = value_later s (Bin o) (a ∷ b ∷ [])

un_later : (o : Op1) (a : Origin) → Keeps (un_made o a)
un_later o a s = value_later s (Un o) (a ∷ [])

ptr_eq_later : (a b : Origin) → Keeps (ptr_eq_made a b)
ptr_eq_later a b s = value_later s PtrEq (a ∷ b ∷ s.carried.memory ∷ [])

pub local_later : (k : ℕ) → Keeps (local_made k)
local_later k s = value_later s (Local k) []

pub store_later : (w : ℕ) (a v : Origin) → Keeps (store_made w a v)
store_later w a v s = node_later s (Store w) (a ∷ v ∷ s.carried.memory ∷ []) v (Out s.next 0) s.carried.io

pub converted_later : (t : TypeTree) (v : Origin) → Keeps (converted_made t v)
converted_later (scalar_type scalar.Char) v s = un_later op1.Zext8 v s
converted_later (scalar_type scalar.UnsignedChar) v s = un_later op1.Zext8 v s
converted_later (scalar_type scalar.SignedChar) v s = un_later op1.Sext8 v s
converted_later (scalar_type scalar.Short) v s = un_later op1.Sext16 v s
converted_later (scalar_type scalar.UnsignedShort) v s = un_later op1.Zext16 v s
converted_later (scalar_type scalar.Int) v s = later_here s
converted_later (scalar_type scalar.UnsignedInt) v s = later_here s
converted_later void_type v s = later_here s
converted_later (pointer_to t) v s = later_here s
converted_later (array_of t n) v s = later_here s
converted_later (struct_type tag) v s = later_here s

extended_later : (t : TypeTree) (v : Origin) → Keeps (extended_made t v)
extended_later (scalar_type scalar.SignedChar) v s = un_later op1.Sext8 v s
extended_later (scalar_type scalar.Short) v s = un_later op1.Sext16 v s
extended_later (scalar_type scalar.Char) v s = later_here s
extended_later (scalar_type scalar.UnsignedChar) v s = later_here s
extended_later (scalar_type scalar.UnsignedShort) v s = later_here s
extended_later (scalar_type scalar.Int) v s = later_here s
extended_later (scalar_type scalar.UnsignedInt) v s = later_here s
extended_later void_type v s = later_here s
extended_later (pointer_to t) v s = later_here s
extended_later (array_of t n) v s = later_here s
extended_later (struct_type tag) v s = later_here s

read_later : (t : TypeTree) (a : Origin) → Keeps (read_made t a)
read_later t a s = bind_later s (load_made (access_width t) a s) (extended_made t) (value_later s (Load (access_width t)) (a ∷ s.carried.memory ∷ [])) (extended_later t)

pub is_zero_later : (v : Origin) → Keeps (is_zero_made v)
is_zero_later v s = bind_later s (const_made 0 s) (λ z t. bin_made op.Eq v z t) (const_later 0 s) (λ z. bin_later op.Eq v z)

pub is_not_zero_later : (v : Origin) → Keeps (is_not_zero_made v)
is_not_zero_later v s = bind_later s (const_made 0 s) (λ z t. bin_made op.Ne v z t) (const_later 0 s) (λ z. bin_later op.Ne v z)

is_null_later : (v : Origin) → Keeps (is_null_made v)
is_null_later v s = bind_later s (const_made 0 s) (λ z t. ptr_eq_made v z t) (const_later 0 s) (λ z. ptr_eq_later v z)

not_later : (t : TypeTree) (v : Origin) → Keeps (not_made t v)
not_later (pointer_to t) v s = is_null_later v s
not_later void_type v s = is_zero_later v s
not_later (scalar_type t) v s = is_zero_later v s
not_later (array_of t n) v s = is_zero_later v s
not_later (struct_type tag) v s = is_zero_later v s

condition_later : (t : TypeTree) (v : Origin) → Keeps (condition_made t v)
condition_later (pointer_to t) v s = bind_later s (is_null_made v s) is_zero_made (is_null_later v s) is_zero_later
condition_later void_type v s = later_here s
condition_later (scalar_type t) v s = later_here s
condition_later (array_of t n) v s = later_here s
condition_later (struct_type tag) v s = later_here s

equal_later : (t : TypeTree) (a b : Origin) → Keeps (equal_made t a b)
equal_later (pointer_to t) a b s = ptr_eq_later a b s
equal_later void_type a b s = bin_later op.Eq a b s
equal_later (scalar_type t) a b s = bin_later op.Eq a b s
equal_later (array_of t n) a b s = bin_later op.Eq a b s
equal_later (struct_type tag) a b s = bin_later op.Eq a b s

not_equal_later : (t : TypeTree) (a b : Origin) → Keeps (not_equal_made t a b)
not_equal_later (pointer_to t) a b s = bind_later s (ptr_eq_made a b s) is_zero_made (ptr_eq_later a b s) is_zero_later
not_equal_later void_type a b s = bin_later op.Ne a b s
not_equal_later (scalar_type t) a b s = bin_later op.Ne a b s
not_equal_later (array_of t n) a b s = bin_later op.Ne a b s
not_equal_later (struct_type tag) a b s = bin_later op.Ne a b s

compared_later : (r : Relation) (t : TypeTree) (a b : Origin) → Keeps (compared_made r t a b)
compared_later relation.Less t a b s = bin_later (less_op t) a b s
compared_later relation.Greater t a b s = bin_later (less_op t) b a s
compared_later relation.LessEqual t a b s = bind_later s (bin_made (less_op t) b a s) is_zero_made (bin_later (less_op t) b a s) is_zero_later
compared_later relation.GreaterEqual t a b s = bind_later s (bin_made (less_op t) a b s) is_zero_made (bin_later (less_op t) a b s) is_zero_later
compared_later relation.Equal t a b s = equal_later t a b s
compared_later relation.NotEqual t a b s = not_equal_later t a b s

moved_later : (o : Op2) (p i : Origin) (n : ℕ) → Keeps (moved_made o p i n)
moved_later o p i n s =
    bind_later s (const_made n s) (λ c t. bind (bin_made op.Mul i c t) (λ m u. bin_made o p m u)) (const_later n s)
    (λ c t. bind_later t (bin_made op.Mul i c t) (λ m u. bin_made o p m u) (bin_later op.Mul i c t) (λ m. bin_later o p m))

difference_later : (a b : Origin) (n : ℕ) → Keeps (difference_made a b n)
difference_later a b n s =
    bind_later s (bin_made op.Sub a b s) (λ d t. bind (const_made n t) (λ c u. bin_made op.Div d c u)) (bin_later op.Sub a b s)
    (λ d t. bind_later t (const_made n t) (λ c u. bin_made op.Div d c u) (const_later n t) (λ c. bin_later op.Div d c))

pub at_offset_later : (a : Origin) (n : ℕ) → Keeps (at_offset_made a n)
at_offset_later a n s = bind_later s (const_made n s) (λ c t. bin_made op.Add a c t) (const_later n s) (λ c. bin_later op.Add a c)

-- ---- places

address_spot_later : (s : Point) (b : Built Origin) → Later s b.after → Later s (address_spot b).after
address_spot_later s b h = bind_later s b (λ a t. given (at_address a) t) h (λ a. later_here)

slot_spot_later : (k : ℕ) (x : Option SlotOrigin) → Keeps (slot_spot k x)
slot_spot_later k None s = later_here s
slot_spot_later k (Some (held o)) s = later_here s
slot_spot_later k (Some (hidden o)) s = later_here s
slot_spot_later k (Some (object n)) s = address_spot_later s (local_made n s) (local_later n s)

member_spot_later : (x : Spot) (n : ℕ) → Keeps (member_spot x n)
member_spot_later (in_slot k) n s = later_here s
member_spot_later (at_address a) n s = address_spot_later s (at_offset_made a n s) (at_offset_later a n s)

spot_address_later : (x : Spot) → Keeps (spot_address x)
spot_address_later (in_slot k) s = later_here s
spot_address_later (at_address a) s = later_here s

pub spot_read_later : (t : TypeTree) (x : Spot) → Keeps (spot_read t x)
spot_read_later t (in_slot k) s = later_here s
spot_read_later t (at_address a) s = read_later t a s

spot_written_later : (t : TypeTree) (x : Spot) (v : Origin) → Keeps (spot_written t x v)
spot_written_later t (in_slot k) v s = set_later s k v
spot_written_later t (at_address a) v s = store_later (access_width t) a v s

-- ---- operations on what operands give

unary_later : (o : UnaryOp) (t u : TypeTree) (v : Origin) → Keeps (unary_made o t u v)
unary_later unary_op.Convert t u v s = converted_later t v s
unary_later unary_op.Discard t u v s = later_here s
unary_later unary_op.Negate t u v s = bind_later s (const_made 0 s) (λ z q. bin_made op.Sub z v q) (const_later 0 s) (λ z. bin_later op.Sub z v)
unary_later unary_op.Complement t u v s =
    bind_later s (const_made 4294967295 s) (λ c q. bin_made op.Xor v c q) (const_later 4294967295 s) (λ c. bin_later op.Xor v c)
unary_later unary_op.LogicalNot t u v s = not_later u v s
unary_later unary_op.Put t u v s =
    bind_later s (put_made v s) (un_made op1.Zext8) (node_later s Put (v ∷ s.carried.io ∷ []) v s.carried.memory (Out s.next 0)) (un_later op1.Zext8)
unary_later unary_op.Exit t u v s = node_later s Exit (v ∷ s.carried.io ∷ []) v s.carried.memory (Out s.next 0)

binary_later : (o : BinaryOp) (t : TypeTree) (a b : Origin) → Keeps (binary_made o t a b)
binary_later (binary_op.Arithmetic o) t a b s = bin_later o a b s
binary_later (binary_op.Compare r) t a b s = compared_later r t a b s
binary_later (binary_op.PointerPlus n) t a b s = moved_later op.Add a b n s
binary_later (binary_op.IntegerPlus n) t a b s = moved_later op.Add b a n s
binary_later (binary_op.PointerMinus n) t a b s = moved_later op.Sub a b n s
binary_later (binary_op.PointerDifference n) t a b s = difference_later a b n s

pub compound_later : (o : CompoundOp) (a b : Origin) → Keeps (compound_made o a b)
compound_later (compound_op.Arithmetic o unsigned) a b s = bin_later o a b s
compound_later (compound_op.PointerPlus n) a b s = moved_later op.Add a b n s
compound_later (compound_op.PointerMinus n) a b s = moved_later op.Sub a b n s

pub stepped_later : (i : IncDec) (v : Origin) → Keeps (stepped_made i v)
stepped_later i v s = bind_later s (const_made i.by s) (λ c t. bin_made (step_op i.up) v c t) (const_later i.by s) (λ c. bin_later (step_op i.up) v c)

-- ---- expressions

mutual
  pub expr_later : (e : ExprTree) → Keeps (expr_made e)
  expr_later (expr t f) s = form_later t f s

  form_later : (t : TypeTree) (f : FormTree) → Keeps (form_made t f)
  form_later t (constant w) s = const_later w s
  form_later t (read p) s = bind_later s (place_made p s) (spot_read t) (place_later p s) (spot_read_later t)
  form_later t (address p) s = bind_later s (place_made p s) spot_address (place_later p s) spot_address_later
  form_later t (unary o e) s = bind_later s (expr_made e s) (unary_made o t (type_of e)) (expr_later e s) (unary_later o t (type_of e))
  form_later t (binary o a b) s =
      bind_later s (expr_made a s) (λ x u. bind (expr_made b u) (binary_made o (type_of a) x)) (expr_later a s)
      (λ x u. bind_later u (expr_made b u) (binary_made o (type_of a) x) (expr_later b u) (binary_later o (type_of a) x))
  form_later t (logical_and a b) s =
      bind_later s (tested a s) (λ p u. choice one_value u p (const_made 0) (λ v. bind (tested b v) is_not_zero_made)) (tested_later a s)
      (λ p u.
      choice_later one_value u p (const_made 0) (λ v. bind (tested b v) is_not_zero_made) (const_later 0)
      (λ v. bind_later v (tested b v) is_not_zero_made (tested_later b v) is_not_zero_later))
  form_later t (logical_or a b) s =
      bind_later s (tested a s) (λ p u. choice one_value u p (λ v. bind (tested b v) is_not_zero_made) (const_made 1)) (tested_later a s)
      (λ p u.
      choice_later one_value u p (λ v. bind (tested b v) is_not_zero_made) (const_made 1)
      (λ v. bind_later v (tested b v) is_not_zero_made (tested_later b v) is_not_zero_later) (const_later 1))
  form_later t (conditional d a b) s =
      bind_later s (tested d s) (λ p u. choice (conditional_extra t p) u p (expr_made b) (expr_made a)) (tested_later d s)
      (λ p u. choice_later (conditional_extra t p) u p (expr_made b) (expr_made a) (expr_later b) (expr_later a))
  form_later t (comma es e) s = bind_later s (commas_made es s) (λ _ u. expr_made e u) (commas_later es s) (λ _. expr_later e)
  form_later t (assign p e) s =
      bind_later s (place_made p s) (λ x u. bind (expr_made e u) (spot_written t x)) (place_later p s)
      (λ x u. bind_later u (expr_made e u) (spot_written t x) (expr_later e u) (spot_written_later t x))
  form_later t (compound o p e) s =
      bind_later s (place_made p s)
      (λ x u. bind (spot_read t x u) (λ old v. bind (expr_made e v) (λ y w. bind (compound_made o old y w) (λ new z. bind (converted_made t new z) (spot_written t x)))))
      (place_later p s)
      (λ x u.
      bind_later u (spot_read t x u) (λ old v. bind (expr_made e v) (λ y w. bind (compound_made o old y w) (λ new z. bind (converted_made t new z) (spot_written t x))))
      (spot_read_later t x u)
      (λ old v.
      bind_later v (expr_made e v) (λ y w. bind (compound_made o old y w) (λ new z. bind (converted_made t new z) (spot_written t x))) (expr_later e v)
      (λ y w.
      bind_later w (compound_made o old y w) (λ new z. bind (converted_made t new z) (spot_written t x)) (compound_later o old y w)
      (λ new z. bind_later z (converted_made t new z) (spot_written t x) (converted_later t new z) (spot_written_later t x)))))
  form_later t (inc_dec i p) s =
      bind_later s (place_made p s)
      (λ x u.
      bind (spot_read t x u)
      (λ old v.
      bind (stepped_made i old v)
      (λ new w. bind (converted_made t new w) (λ c z. bind (spot_written t x c z) (λ _ y. given (if i.gives_old then old else c) y)))))
      (place_later p s)
      (λ x u.
      bind_later u (spot_read t x u)
      (λ old v.
      bind (stepped_made i old v)
      (λ new w. bind (converted_made t new w) (λ c z. bind (spot_written t x c z) (λ _ y. given (if i.gives_old then old else c) y))))
      (spot_read_later t x u)
      (λ old v.
      bind_later v (stepped_made i old v)
      (λ new w. bind (converted_made t new w) (λ c z. bind (spot_written t x c z) (λ _ y. given (if i.gives_old then old else c) y)))
      (stepped_later i old v)
      (λ new w.
      bind_later w (converted_made t new w) (λ c z. bind (spot_written t x c z) (λ _ y. given (if i.gives_old then old else c) y)) (converted_later t new w)
      (λ c z.
      bind_later z (spot_written t x c z) (λ _ y. given (if i.gives_old then old else c) y) (spot_written_later t x c z) (λ _ y. later_here y)))))
  form_later t (call f es) s =
      bind_later s (arguments_made es s) (apply_made f) (arguments_later es s)
      (λ os u. node_later u (Apply f) (os ++ u.carried.memory ∷ u.carried.io ∷ []) (Out u.next 0) (Out u.next 1) (Out u.next 2))
  form_later t get s = node_later s Get (s.carried.io ∷ []) (Out s.next 0) s.carried.memory (Out s.next 1)

  pub tested_later : (e : ExprTree) → Keeps (tested e)
  tested_later (expr t f) s = bind_later s (form_made t f s) (condition_made t) (form_later t f s) (condition_later t)

  commas_later : (es : ExprTrees) → Keeps (commas_made es)
  commas_later no_exprs s = later_here s
  commas_later (expr_then e es) s = bind_later s (expr_made e s) (λ _ u. commas_made es u) (expr_later e s) (λ _. commas_later es)

  arguments_later : (es : ExprTrees) → Keeps (arguments_made es)
  arguments_later no_exprs s = later_here s
  arguments_later (expr_then e es) s =
      bind_later s (expr_made e s) (λ x u. bind (arguments_made es u) (λ xs v. given (x ∷ xs) v)) (expr_later e s)
      (λ x u. bind_later u (arguments_made es u) (λ xs v. given (x ∷ xs) v) (arguments_later es u) (λ xs v. later_here v))

  place_later : (p : PlaceTree) → Keeps (place_made p)
  place_later (place t f) s = place_form_later f s

  place_form_later : (f : PlaceFormTree) → Keeps (place_form_made f)
  place_form_later (local k) s = slot_spot_later k (variable_at s.carried.variables k) s
  place_form_later (global k) s = address_spot_later s (delta_made k s) (value_later s (Delta k) [])
  place_form_later (at e) s = address_spot_later s (expr_made e s) (expr_later e s)
  place_form_later (member p offset) s = bind_later s (place_made p s) (λ x u. member_spot x offset u) (place_later p s) (λ x. member_spot_later x offset)
