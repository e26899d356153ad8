-- Expressions take as many numbers as they make nodes.
use Rattle.std.proofs.Common.{ℕ, List, [], ◌∷◌, ◌++◌, Option, Some, None}
use Rattle.std.specs.Prelude.{if◌then◌else◌}
use Rattle.val_core.specs.declared.operation.Op1.{Op1}
use Rattle.val_core.specs.declared.operation.Op1.TheVariants as op1
use Rattle.val_core.specs.declared.operation.Op2.{Op2}
use Rattle.val_core.specs.declared.operation.Op2.TheVariants as op
use Rattle.c_type.specs.declared.scalar.Scalar.TheVariants as scalar
use Rattle.c_type.specs.Trees.{TypeTree, void_type, scalar_type, pointer_to, array_of, struct_type}
use Rattle.c_typed.specs.declared.operator.Relation.{Relation}
use Rattle.c_typed.specs.declared.operator.Relation.TheVariants as relation
use Rattle.c_typed.specs.declared.operator.UnaryOp.{UnaryOp}
use Rattle.c_typed.specs.declared.operator.UnaryOp.TheVariants as unary_op
use Rattle.c_typed.specs.declared.operator.BinaryOp.{BinaryOp}
use Rattle.c_typed.specs.declared.operator.BinaryOp.TheVariants as binary_op
use Rattle.c_typed.specs.declared.operator.CompoundOp.{CompoundOp}
use Rattle.c_typed.specs.declared.operator.CompoundOp.TheVariants as compound_op
use Rattle.c_typed.specs.declared.operator.IncDec.{IncDec}
use Rattle.c_typed.specs.Typed.{ExprTree, expr, FormTree, constant, read, address, unary, binary, logical_and, logical_or, conditional, comma, assign, compound, inc_dec, call, get, ExprTrees, no_exprs, expr_then, PlaceTree, place, PlaceFormTree, local, global, at, member}
use Rattle.c_typed.specs.WellTyped.{type_of, step_op}
use Rattle.g_graph.specs.declared.op.Origin.{Origin}
use Rattle.g_graph.specs.declared.op.Origin.TheVariants.{Out}
use Rattle.g_graph.specs.declared.op.Op.{Op}
use Rattle.g_graph.specs.declared.op.Op.TheVariants.{Const, Local, Delta, Bin, Un, Load, Store, PtrEq, Apply, Put, Exit, Get}
use Rattle.g_build_def.specs.Writer.{SlotOrigin, held, object, hidden, variable_at, Point, Built, given, bind, one_value, choice}
use Rattle.g_build_def.specs.Operations.{value_node, const_made, local_made, delta_made, bin_made, un_made, ptr_eq_made, load_made, store_made, apply_made, put_made, converted_made, extended_made, read_made, is_zero_made, is_not_zero_made, is_null_made, not_made, condition_made, less_op, equal_made, not_equal_made, compared_made, moved_made, difference_made, at_offset_made}
use Rattle.c_typed.specs.Objects.{access_width}
use Rattle.g_build_def.specs.Places.{Spot, in_slot, at_address, address_spot, slot_spot, member_spot, spot_address, spot_read, spot_written}
use Rattle.g_build_def.specs.Expressions.{unary_made, binary_made, compound_made, stepped_made, conditional_extra, expr_made, form_made, tested, commas_made, arguments_made, place_made, place_form_made}
use Rattle.g_build_keeps.proofs.Counted.{Counts, Keeps, counted_here, bind_counted, node_counted, choice_counted}

-- ---- operations

value_counted : (s : Point) (o : Op) (inputs : List Origin) → Counts s (value_node s o inputs)
value_counted s o inputs = node_counted s o inputs (Out s.next 0) s.carried.memory s.carried.io

pub const_counted : (w : ℕ) → Keeps (const_made w)
const_counted w s = value_counted s (Const w) []

pub bin_counted : (o : Op2) (a b : Origin) → Keeps (bin_made o a b)
bin_counted o a b s = value_counted s (Bin o) (a ∷ b ∷ [])

un_counted : (o : Op1) (a : Origin) → Keeps (un_made o a)
un_counted o a s = value_counted s (Un o) (a ∷ [])

ptr_eq_counted : (a b : Origin) → Keeps (ptr_eq_made a b)
ptr_eq_counted a b s = value_counted s PtrEq (a ∷ b ∷ s.carried.memory ∷ [])

pub local_counted : (k : ℕ) → Keeps (local_made k)
local_counted k s = value_counted s (Local k) []

pub store_counted : (w : ℕ) (a v : Origin) → Keeps (store_made w a v)
store_counted w a v s = node_counted s (Store w) (a ∷ v ∷ s.carried.memory ∷ []) v (Out s.next 0) s.carried.io

pub converted_counted : (t : TypeTree) (v : Origin) → Keeps (converted_made t v)
converted_counted (scalar_type scalar.Char) v s = un_counted op1.Zext8 v s
converted_counted (scalar_type scalar.UnsignedChar) v s = un_counted op1.Zext8 v s
converted_counted (scalar_type scalar.SignedChar) v s = un_counted op1.Sext8 v s
converted_counted (scalar_type scalar.Short) v s = un_counted op1.Sext16 v s
converted_counted (scalar_type scalar.UnsignedShort) v s = un_counted op1.Zext16 v s
converted_counted (scalar_type scalar.Int) v s = counted_here s
converted_counted (scalar_type scalar.UnsignedInt) v s = counted_here s
converted_counted void_type v s = counted_here s
converted_counted (pointer_to t) v s = counted_here s
converted_counted (array_of t n) v s = counted_here s
converted_counted (struct_type tag) v s = counted_here s

extended_counted : (t : TypeTree) (v : Origin) → Keeps (extended_made t v)
extended_counted (scalar_type scalar.SignedChar) v s = un_counted op1.Sext8 v s
extended_counted (scalar_type scalar.Short) v s = un_counted op1.Sext16 v s
extended_counted (scalar_type scalar.Char) v s = counted_here s
extended_counted (scalar_type scalar.UnsignedChar) v s = counted_here s
extended_counted (scalar_type scalar.UnsignedShort) v s = counted_here s
extended_counted (scalar_type scalar.Int) v s = counted_here s
extended_counted (scalar_type scalar.UnsignedInt) v s = counted_here s
extended_counted void_type v s = counted_here s
extended_counted (pointer_to t) v s = counted_here s
extended_counted (array_of t n) v s = counted_here s
extended_counted (struct_type tag) v s = counted_here s

read_counted : (t : TypeTree) (a : Origin) → Keeps (read_made t a)
read_counted t a s = bind_counted s (load_made (access_width t) a s) (extended_made t) (value_counted s (Load (access_width t)) (a ∷ s.carried.memory ∷ [])) (extended_counted t)

pub is_zero_counted : (v : Origin) → Keeps (is_zero_made v)
is_zero_counted v s = bind_counted s (const_made 0 s) (λ z t. bin_made op.Eq v z t) (const_counted 0 s) (λ z. bin_counted op.Eq v z)

pub is_not_zero_counted : (v : Origin) → Keeps (is_not_zero_made v)
is_not_zero_counted v s = bind_counted s (const_made 0 s) (λ z t. bin_made op.Ne v z t) (const_counted 0 s) (λ z. bin_counted op.Ne v z)

is_null_counted : (v : Origin) → Keeps (is_null_made v)
is_null_counted v s = bind_counted s (const_made 0 s) (λ z t. ptr_eq_made v z t) (const_counted 0 s) (λ z. ptr_eq_counted v z)

not_counted : (t : TypeTree) (v : Origin) → Keeps (not_made t v)
not_counted (pointer_to t) v s = is_null_counted v s
not_counted void_type v s = is_zero_counted v s
not_counted (scalar_type t) v s = is_zero_counted v s
not_counted (array_of t n) v s = is_zero_counted v s
not_counted (struct_type tag) v s = is_zero_counted v s

condition_counted : (t : TypeTree) (v : Origin) → Keeps (condition_made t v)
condition_counted (pointer_to t) v s = bind_counted s (is_null_made v s) is_zero_made (is_null_counted v s) is_zero_counted
condition_counted void_type v s = counted_here s
condition_counted (scalar_type t) v s = counted_here s
condition_counted (array_of t n) v s = counted_here s
condition_counted (struct_type tag) v s = counted_here s

equal_counted : (t : TypeTree) (a b : Origin) → Keeps (equal_made t a b)
equal_counted (pointer_to t) a b s = ptr_eq_counted a b s
equal_counted void_type a b s = bin_counted op.Eq a b s
equal_counted (scalar_type t) a b s = bin_counted op.Eq a b s
equal_counted (array_of t n) a b s = bin_counted op.Eq a b s
equal_counted (struct_type tag) a b s = bin_counted op.Eq a b s

not_equal_counted : (t : TypeTree) (a b : Origin) → Keeps (not_equal_made t a b)
not_equal_counted (pointer_to t) a b s = bind_counted s (ptr_eq_made a b s) is_zero_made (ptr_eq_counted a b s) is_zero_counted
not_equal_counted void_type a b s = bin_counted op.Ne a b s
not_equal_counted (scalar_type t) a b s = bin_counted op.Ne a b s
not_equal_counted (array_of t n) a b s = bin_counted op.Ne a b s
not_equal_counted (struct_type tag) a b s = bin_counted op.Ne a b s

compared_counted : (r : Relation) (t : TypeTree) (a b : Origin) → Keeps (compared_made r t a b)
compared_counted relation.Less t a b s = bin_counted (less_op t) a b s
compared_counted relation.Greater t a b s = bin_counted (less_op t) b a s
compared_counted relation.LessEqual t a b s = bind_counted s (bin_made (less_op t) b a s) is_zero_made (bin_counted (less_op t) b a s) is_zero_counted
compared_counted relation.GreaterEqual t a b s = bind_counted s (bin_made (less_op t) a b s) is_zero_made (bin_counted (less_op t) a b s) is_zero_counted
compared_counted relation.Equal t a b s = equal_counted t a b s
compared_counted relation.NotEqual t a b s = not_equal_counted t a b s

moved_counted : (o : Op2) (p i : Origin) (n : ℕ) → Keeps (moved_made o p i n)
moved_counted o p i n s =
    bind_counted s (const_made n s) (λ c t. bind (bin_made op.Mul i c t) (λ m u. bin_made o p m u)) (const_counted n s)
    (λ c t. bind_counted t (bin_made op.Mul i c t) (λ m u. bin_made o p m u) (bin_counted op.Mul i c t) (λ m. bin_counted o p m))

difference_counted : (a b : Origin) (n : ℕ) → Keeps (difference_made a b n)
difference_counted a b n s =
    bind_counted s (bin_made op.Sub a b s) (λ d t. bind (const_made n t) (λ c u. bin_made op.Div d c u)) (bin_counted op.Sub a b s)
    (λ d t. bind_counted t (const_made n t) (λ c u. bin_made op.Div d c u) (const_counted n t) (λ c. bin_counted op.Div d c))

pub at_offset_counted : (a : Origin) (n : ℕ) → Keeps (at_offset_made a n)
at_offset_counted a n s = bind_counted s (const_made n s) (λ c t. bin_made op.Add a c t) (const_counted n s) (λ c. bin_counted op.Add a c)

-- ---- places

address_spot_counted : (s : Point) (b : Built Origin) → Counts s b → Counts s (address_spot b)
address_spot_counted s b h = bind_counted s b (λ a t. given (at_address a) t) h (λ a. counted_here)

slot_spot_counted : (k : ℕ) (x : Option SlotOrigin) → Keeps (slot_spot k x)
slot_spot_counted k None s = counted_here s
slot_spot_counted k (Some (held o)) s = counted_here s
slot_spot_counted k (Some (hidden o)) s = counted_here s
slot_spot_counted k (Some (object n)) s = address_spot_counted s (local_made n s) (local_counted n s)

member_spot_counted : (x : Spot) (n : ℕ) → Keeps (member_spot x n)
member_spot_counted (in_slot k) n s = counted_here s
member_spot_counted (at_address a) n s = address_spot_counted s (at_offset_made a n s) (at_offset_counted a n s)

spot_address_counted : (x : Spot) → Keeps (spot_address x)
spot_address_counted (in_slot k) s = counted_here s
spot_address_counted (at_address a) s = counted_here s

pub spot_read_counted : (t : TypeTree) (x : Spot) → Keeps (spot_read t x)
spot_read_counted t (in_slot k) s = counted_here s
spot_read_counted t (at_address a) s = read_counted t a s

spot_written_counted : (t : TypeTree) (x : Spot) (v : Origin) → Keeps (spot_written t x v)
spot_written_counted t (in_slot k) v s = counted_here s
spot_written_counted t (at_address a) v s = store_counted (access_width t) a v s

-- ---- operations on what operands give

unary_counted : (o : UnaryOp) (t u : TypeTree) (v : Origin) → Keeps (unary_made o t u v)
unary_counted unary_op.Convert t u v s = converted_counted t v s
unary_counted unary_op.Discard t u v s = counted_here s
unary_counted unary_op.Negate t u v s = bind_counted s (const_made 0 s) (λ z q. bin_made op.Sub z v q) (const_counted 0 s) (λ z. bin_counted op.Sub z v)
unary_counted unary_op.Complement t u v s =
    bind_counted s (const_made 4294967295 s) (λ c q. bin_made op.Xor v c q) (const_counted 4294967295 s) (λ c. bin_counted op.Xor v c)
unary_counted unary_op.LogicalNot t u v s = not_counted u v s
unary_counted unary_op.Put t u v s =
    bind_counted s (put_made v s) (un_made op1.Zext8) (node_counted s Put (v ∷ s.carried.io ∷ []) v s.carried.memory (Out s.next 0)) (un_counted op1.Zext8)
unary_counted unary_op.Exit t u v s = node_counted s Exit (v ∷ s.carried.io ∷ []) v s.carried.memory (Out s.next 0)

binary_counted : (o : BinaryOp) (t : TypeTree) (a b : Origin) → Keeps (binary_made o t a b)
binary_counted (binary_op.Arithmetic o) t a b s = bin_counted o a b s
binary_counted (binary_op.Compare r) t a b s = compared_counted r t a b s
binary_counted (binary_op.PointerPlus n) t a b s = moved_counted op.Add a b n s
binary_counted (binary_op.IntegerPlus n) t a b s = moved_counted op.Add b a n s
binary_counted (binary_op.PointerMinus n) t a b s = moved_counted op.Sub a b n s
binary_counted (binary_op.PointerDifference n) t a b s = difference_counted a b n s

pub compound_counted : (o : CompoundOp) (a b : Origin) → Keeps (compound_made o a b)
compound_counted (compound_op.Arithmetic o unsigned) a b s = bin_counted o a b s
compound_counted (compound_op.PointerPlus n) a b s = moved_counted op.Add a b n s
compound_counted (compound_op.PointerMinus n) a b s = moved_counted op.Sub a b n s

pub stepped_counted : (i : IncDec) (v : Origin) → Keeps (stepped_made i v)
stepped_counted i v s = bind_counted s (const_made i.by s) (λ c t. bin_made (step_op i.up) v c t) (const_counted i.by s) (λ c. bin_counted (step_op i.up) v c)

-- ---- expressions

mutual
  pub expr_counted : (e : ExprTree) → Keeps (expr_made e)
  expr_counted (expr t f) s = form_counted t f s

  form_counted : (t : TypeTree) (f : FormTree) → Keeps (form_made t f)
  form_counted t (constant w) s = const_counted w s
  form_counted t (read p) s = bind_counted s (place_made p s) (spot_read t) (place_counted p s) (spot_read_counted t)
  form_counted t (address p) s = bind_counted s (place_made p s) spot_address (place_counted p s) spot_address_counted
  form_counted t (unary o e) s = bind_counted s (expr_made e s) (unary_made o t (type_of e)) (expr_counted e s) (unary_counted o t (type_of e))
  form_counted t (binary o a b) s =
      bind_counted s (expr_made a s) (λ x u. bind (expr_made b u) (binary_made o (type_of a) x)) (expr_counted a s)
      (λ x u. bind_counted u (expr_made b u) (binary_made o (type_of a) x) (expr_counted b u) (binary_counted o (type_of a) x))
  form_counted t (logical_and a b) s =
      bind_counted s (tested a s) (λ p u. choice one_value u p (const_made 0) (λ v. bind (tested b v) is_not_zero_made)) (tested_counted a s)
      (λ p u.
      choice_counted one_value u p (const_made 0) (λ v. bind (tested b v) is_not_zero_made) (const_counted 0)
      (λ v. bind_counted v (tested b v) is_not_zero_made (tested_counted b v) is_not_zero_counted))
  form_counted t (logical_or a b) s =
      bind_counted s (tested a s) (λ p u. choice one_value u p (λ v. bind (tested b v) is_not_zero_made) (const_made 1)) (tested_counted a s)
      (λ p u.
      choice_counted one_value u p (λ v. bind (tested b v) is_not_zero_made) (const_made 1)
      (λ v. bind_counted v (tested b v) is_not_zero_made (tested_counted b v) is_not_zero_counted) (const_counted 1))
  form_counted t (conditional d a b) s =
      bind_counted s (tested d s) (λ p u. choice (conditional_extra t p) u p (expr_made b) (expr_made a)) (tested_counted d s)
      (λ p u. choice_counted (conditional_extra t p) u p (expr_made b) (expr_made a) (expr_counted b) (expr_counted a))
  form_counted t (comma es e) s = bind_counted s (commas_made es s) (λ _ u. expr_made e u) (commas_counted es s) (λ _. expr_counted e)
  form_counted t (assign p e) s =
      bind_counted s (place_made p s) (λ x u. bind (expr_made e u) (spot_written t x)) (place_counted p s)
      (λ x u. bind_counted u (expr_made e u) (spot_written t x) (expr_counted e u) (spot_written_counted t x))
  form_counted t (compound o p e) s =
      bind_counted s (place_made p s)
      (λ x u. bind (spot_read t x u) (λ old v. bind (expr_made e v) (λ y w. bind (compound_made o old y w) (λ new z. bind (converted_made t new z) (spot_written t x)))))
      (place_counted p s)
      (λ x u.
      bind_counted u (spot_read t x u) (λ old v. bind (expr_made e v) (λ y w. bind (compound_made o old y w) (λ new z. bind (converted_made t new z) (spot_written t x))))
      (spot_read_counted t x u)
      (λ old v.
      bind_counted v (expr_made e v) (λ y w. bind (compound_made o old y w) (λ new z. bind (converted_made t new z) (spot_written t x))) (expr_counted e v)
      (λ y w.
      bind_counted w (compound_made o old y w) (λ new z. bind (converted_made t new z) (spot_written t x)) (compound_counted o old y w)
      (λ new z. bind_counted z (converted_made t new z) (spot_written t x) (converted_counted t new z) (spot_written_counted t x)))))
  form_counted t (inc_dec i p) s =
      bind_counted s (place_made p s)
      (λ x u.
      bind (spot_read t x u)
      (λ old v.
      bind (stepped_made i old v)
      (λ new w. bind (converted_made t new w) (λ c z. bind (spot_written t x c z) (λ _ y. given (if i.gives_old then old else c) y)))))
      (place_counted p s)
      (λ x u.
      bind_counted u (spot_read t x u)
      (λ old v.
      bind (stepped_made i old v)
      (λ new w. bind (converted_made t new w) (λ c z. bind (spot_written t x c z) (λ _ y. given (if i.gives_old then old else c) y))))
      (spot_read_counted t x u)
      (λ old v.
      bind_counted v (stepped_made i old v)
      (λ new w. bind (converted_made t new w) (λ c z. bind (spot_written t x c z) (λ _ y. given (if i.gives_old then old else c) y)))
      (stepped_counted i old v)
      (λ new w.
      bind_counted w (converted_made t new w) (λ c z. bind (spot_written t x c z) (λ _ y. given (if i.gives_old then old else c) y)) (converted_counted t new w)
      (λ c z.
      bind_counted z (spot_written t x c z) (λ _ y. given (if i.gives_old then old else c) y) (spot_written_counted t x c z) (λ _ y. counted_here y)))))
  form_counted t (call f es) s =
      bind_counted s (arguments_made es s) (apply_made f) (arguments_counted es s)
      (λ os u. node_counted u (Apply f) (os ++ u.carried.memory ∷ u.carried.io ∷ []) (Out u.next 0) (Out u.next 1) (Out u.next 2))
  form_counted t get s = node_counted s Get (s.carried.io ∷ []) (Out s.next 0) s.carried.memory (Out s.next 1)

  pub tested_counted : (e : ExprTree) → Keeps (tested e)
  tested_counted (expr t f) s = bind_counted s (form_made t f s) (condition_made t) (form_counted t f s) (condition_counted t)

  commas_counted : (es : ExprTrees) → Keeps (commas_made es)
  commas_counted no_exprs s = counted_here s
  commas_counted (expr_then e es) s = bind_counted s (expr_made e s) (λ _ u. commas_made es u) (expr_counted e s) (λ _. commas_counted es)

  arguments_counted : (es : ExprTrees) → Keeps (arguments_made es)
  arguments_counted no_exprs s = counted_here s
  arguments_counted (expr_then e es) s =
      bind_counted s (expr_made e s) (λ x u. bind (arguments_made es u) (λ xs v. given (x ∷ xs) v)) (expr_counted e s)
      (λ x u. bind_counted u (arguments_made es u) (λ xs v. given (x ∷ xs) v) (arguments_counted es u) (λ xs v. counted_here v))

  place_counted : (p : PlaceTree) → Keeps (place_made p)
  place_counted (place t f) s = place_form_counted f s

  place_form_counted : (f : PlaceFormTree) → Keeps (place_form_made f)
  place_form_counted (local k) s = slot_spot_counted k (variable_at s.carried.variables k) s
  place_form_counted (global k) s = address_spot_counted s (delta_made k s) (value_counted s (Delta k) [])
  place_form_counted (at e) s = address_spot_counted s (expr_made e s) (expr_counted e s)
  place_form_counted (member p offset) s = bind_counted s (place_made p s) (λ x u. member_spot x offset u) (place_counted p s) (λ x. member_spot_counted x offset)
