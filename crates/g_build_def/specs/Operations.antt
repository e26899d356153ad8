-- The nodes of operations: each says which origins it takes, what it gives, and which states it changes.
use Rattle.std.specs.Prelude.{ℕ, List, [], ◌∷◌, ◌++◌}
use Rattle.val_core.specs.declared.operation.Op1.{Op1}
use Rattle.val_core.specs.declared.operation.Op1.TheVariants.{Sext8, Zext8, Sext16, Zext16}
use Rattle.val_core.specs.declared.operation.Op2.{Op2}
use Rattle.val_core.specs.declared.operation.Op2.TheVariants as op
use Rattle.c_type.specs.declared.scalar.Scalar.TheVariants.{Char, SignedChar, UnsignedChar, Short, UnsignedShort, Int}
use Rattle.c_type.specs.Trees.{TypeTree, scalar_type, pointer_to}
use Rattle.c_typed.specs.Objects.{access_width}
use Rattle.c_typed.specs.declared.operator.Relation.{Relation}
use Rattle.c_typed.specs.declared.operator.Relation.TheVariants.{Less, Greater, LessEqual, GreaterEqual, Equal, NotEqual}
use Rattle.g_graph.specs.declared.op.Origin.{Origin}
use Rattle.g_graph.specs.declared.op.Origin.TheVariants.{Out}
use Rattle.g_graph.specs.declared.op.Op.{Op}
use Rattle.g_graph.specs.declared.op.Op.TheVariants.{Const, Undef, Local, Delta, Bin, Un, Load, Store, Clear, PtrEq, Apply, Put, Exit, Get}
use Rattle.g_build_def.specs.Writer.{Point, Built, given, bind, one_node}

-- ---- nodes

-- a node that gives a value, and leaves the states as they are
abbrev pub value_node : Point → Op → (inputs : List Origin) → Built Origin
value_node s o inputs = one_node s o inputs (Out s.next 0) s.carried.memory s.carried.io

abbrev pub const_made : ℕ → Point → Built Origin
const_made w s = value_node s (Const w) []

abbrev pub undef_made : Point → Built Origin
undef_made s = value_node s Undef []

abbrev pub local_made : (object : ℕ) → Point → Built Origin
local_made k s = value_node s (Local k) []

abbrev pub delta_made : (global : ℕ) → Point → Built Origin
delta_made k s = value_node s (Delta k) []

abbrev pub bin_made : Op2 → (left right : Origin) → Point → Built Origin
bin_made o a b s = value_node s (Bin o) (a ∷ b ∷ [])

abbrev pub un_made : Op1 → Origin → Point → Built Origin
un_made o a s = value_node s (Un o) (a ∷ [])

abbrev pub load_made : (width : ℕ) → (address : Origin) → Point → Built Origin
load_made w a s = value_node s (Load w) (a ∷ s.carried.memory ∷ [])

abbrev pub ptr_eq_made : (left right : Origin) → Point → Built Origin
ptr_eq_made a b s = value_node s PtrEq (a ∷ b ∷ s.carried.memory ∷ [])

-- the stored value is given on
abbrev pub store_made : (width : ℕ) → (address value : Origin) → Point → Built Origin
store_made w a v s = one_node s (Store w) (a ∷ v ∷ s.carried.memory ∷ []) v (Out s.next 0) s.carried.io

abbrev pub clear_made : (object : ℕ) → Point → Built (Unit {0})
clear_made k s = one_node s (Clear k) (s.carried.memory ∷ []) tt (Out s.next 0) s.carried.io

abbrev pub apply_made : (function : ℕ) → (arguments : List Origin) → Point → Built Origin
apply_made f os s = one_node s (Apply f) (os ++ s.carried.memory ∷ s.carried.io ∷ []) (Out s.next 0) (Out s.next 1) (Out s.next 2)

abbrev pub put_made : Origin → Point → Built Origin
put_made v s = one_node s Put (v ∷ s.carried.io ∷ []) v s.carried.memory (Out s.next 0)

-- what stands for the value of a call of `exit`, which is void, is the status
abbrev pub exit_made : (status : Origin) → Point → Built Origin
exit_made v s = one_node s Exit (v ∷ s.carried.io ∷ []) v s.carried.memory (Out s.next 0)

abbrev pub get_made : Point → Built Origin
get_made s = one_node s Get (s.carried.io ∷ []) (Out s.next 0) s.carried.memory (Out s.next 1)

-- ---- types

-- A conversion to a type keeps the low bits, and extends them (ISO/IEC 9899:2011, 6.3.1.3).
abbrev pub converted_made : TypeTree → Origin → Point → Built Origin
converted_made (scalar_type Char) v s = un_made Zext8 v s
converted_made (scalar_type UnsignedChar) v s = un_made Zext8 v s
converted_made (scalar_type SignedChar) v s = un_made Sext8 v s
converted_made (scalar_type Short) v s = un_made Sext16 v s
converted_made (scalar_type UnsignedShort) v s = un_made Zext16 v s
converted_made t v s = given v s

-- what a Load gives is zero extended
abbrev pub extended_made : TypeTree → Origin → Point → Built Origin
extended_made (scalar_type SignedChar) v s = un_made Sext8 v s
extended_made (scalar_type Short) v s = un_made Sext16 v s
extended_made t v s = given v s

abbrev pub read_made : TypeTree → (address : Origin) → Point → Built Origin
read_made t a s = bind (load_made (access_width t) a s) (extended_made t)

-- ---- tests

abbrev pub is_zero_made : Origin → Point → Built Origin
is_zero_made v s = bind (const_made 0 s) (λ z t. bin_made op.Eq v z t)

abbrev pub is_not_zero_made : Origin → Point → Built Origin
is_not_zero_made v s = bind (const_made 0 s) (λ z t. bin_made op.Ne v z t)

abbrev pub is_null_made : Origin → Point → Built Origin
is_null_made v s = bind (const_made 0 s) (λ z t. ptr_eq_made v z t)

-- `!` of a value of this type
abbrev pub not_made : TypeTree → Origin → Point → Built Origin
not_made (pointer_to t) v s = is_null_made v s
not_made t v s = is_zero_made v s

-- a value of this type as a condition
abbrev pub condition_made : TypeTree → Origin → Point → Built Origin
condition_made (pointer_to t) v s = bind (is_null_made v s) is_zero_made
condition_made t v s = given v s

-- ---- comparisons of operands of one type

abbrev pub less_op : TypeTree → Op2
less_op (scalar_type Int) = op.Slt
less_op t = op.Sltu

abbrev pub equal_made : TypeTree → (left right : Origin) → Point → Built Origin
equal_made (pointer_to t) a b s = ptr_eq_made a b s
equal_made t a b s = bin_made op.Eq a b s

abbrev pub not_equal_made : TypeTree → (left right : Origin) → Point → Built Origin
not_equal_made (pointer_to t) a b s = bind (ptr_eq_made a b s) is_zero_made
not_equal_made t a b s = bin_made op.Ne a b s

abbrev pub compared_made : Relation → TypeTree → (left right : Origin) → Point → Built Origin
compared_made Less t a b s = bin_made (less_op t) a b s
compared_made Greater t a b s = bin_made (less_op t) b a s
compared_made LessEqual t a b s = bind (bin_made (less_op t) b a s) is_zero_made
compared_made GreaterEqual t a b s = bind (bin_made (less_op t) a b s) is_zero_made
compared_made Equal t a b s = equal_made t a b s
compared_made NotEqual t a b s = not_equal_made t a b s

-- ---- pointers

-- a pointer and an integer, in elements of so many bytes
abbrev pub moved_made : Op2 → (pointer integer : Origin) → (bytes : ℕ) → Point → Built Origin
moved_made o p i n s = bind (const_made n s) (λ c t. bind (bin_made op.Mul i c t) (λ m u. bin_made o p m u))

abbrev pub difference_made : (left right : Origin) → (bytes : ℕ) → Point → Built Origin
difference_made a b n s = bind (bin_made op.Sub a b s) (λ d t. bind (const_made n t) (λ c u. bin_made op.Div d c u))

-- the address so many bytes further
abbrev pub at_offset_made : (address : Origin) → (offset : ℕ) → Point → Built Origin
at_offset_made a n s = bind (const_made n s) (λ c t. bin_made op.Add a c t)
