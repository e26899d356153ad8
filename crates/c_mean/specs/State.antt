-- What a source run goes over: variables, memory and input, and what each value is used for (ISO/IEC 9899:2011, 6.2.4, 6.3).
use Rattle.std.specs.Prelude.{ℕ, ◌+◌, ◌-◌, ◌*◌, ◌%◌, ◌^◌, ◌==◌, ◌&&◌, not, nat_le, nat_lt, Bool, true, false, if◌then◌else◌, List, [], Option, None, Some}
use Rattle.val_core.specs.Words.{word2, one_if}
use Rattle.val_core.specs.declared.values.BlockName.{BlockName}
use Rattle.val_core.specs.declared.values.Value.{Value}
use Rattle.val_core.specs.declared.values.Value.TheVariants.{Num, At, Bad}
use Rattle.val_core.specs.Values.{same_block, value1}
use Rattle.val_core.specs.Memory.{Memory, block_named, is_live, pointers_equal}
use Rattle.val_core.specs.Answers.{Answer, Returned, Undefined}
use Rattle.val_core.specs.declared.operation.Op1.TheVariants.{Sext8, Zext8, Sext16, Zext16}
use Rattle.val_core.specs.declared.operation.Op2.{Op2}
use Rattle.val_core.specs.declared.operation.Op2.TheVariants as op
use Rattle.c_type.specs.declared.scalar.Scalar.TheVariants.{Char, SignedChar, UnsignedChar, Short, UnsignedShort, UnsignedInt}
use Rattle.c_type.specs.Trees.{TypeTree, scalar_type, pointer_to}
use Rattle.c_typed.specs.declared.operator.Relation.{Relation}
use Rattle.c_typed.specs.declared.operator.Relation.TheVariants.{Less, Greater, LessEqual, GreaterEqual, Equal, NotEqual}
use Rattle.c_typed.specs.WellTyped.{is_division, is_shift}

-- A variable in scope is a value, which is `Bad` where it has none, or an object of the call, by number.
pub data Slot : Type 0 where
  holds : Value → Slot
  object : (number : ℕ) → Slot

-- the variables in scope, oldest first, the memory, and what is left of the input
pub record State : Type 0 where
  pub slots : List Slot
  pub memory : Memory
  pub input : List ℕ

-- A value with the state after it. It is `Bad` where there is none: of a void expression, or of a call whose function
-- ended without a value.
pub record Valued : Type 0 where
  pub value : Value
  pub state : State

abbrev pub gives : State → Value → Answer Valued
gives s v = Returned (record { value = v; state = s }) []

abbrev pub with_memory : State → Memory → State
with_memory s m = record { slots = s.slots; memory = m; input = s.input }

abbrev pub with_slots : State → List Slot → State
with_slots s slots = record { slots = slots; memory = s.memory; input = s.input }

-- The use of a value that is not there is undefined (6.9.1p12).
abbrev pub used : {A : Type 0} → Value → (Value → Answer A) → Answer A
used Bad next = Undefined []
used (Num w) next = next (Num w)
used (At b o) next = next (At b o)

-- ---- types

abbrev pub is_pointer : TypeTree → Bool
is_pointer (pointer_to t) = true
is_pointer t = false

-- a number of this type is unsigned after promotion (6.3.1.1)
abbrev pub is_unsigned : TypeTree → Bool
is_unsigned (scalar_type UnsignedInt) = true
is_unsigned t = false

-- ---- conversions

-- A conversion keeps the low bits of a number and extends them; below four bytes it needs a number (6.3.1.3).
abbrev pub converted : TypeTree → Value → Value
converted (scalar_type Char) v = value1 Zext8 v
converted (scalar_type UnsignedChar) v = value1 Zext8 v
converted (scalar_type SignedChar) v = value1 Sext8 v
converted (scalar_type UnsignedShort) v = value1 Zext16 v
converted (scalar_type Short) v = value1 Sext16 v
converted t v = v

-- What a read of an object gives of what its leaf holds: a signed narrow number is extended, and has to be a number.
abbrev pub extended : TypeTree → Value → Value
extended (scalar_type SignedChar) v = value1 Sext8 v
extended (scalar_type Short) v = value1 Sext16 v
extended t v = v

-- ---- integers

-- A divisor is not 0, and a shift is by 0 to 31 (6.5.5p5, 6.5.7p3).
abbrev pub is_defined_on : Op2 → (right : ℕ) → Bool
is_defined_on o b = if is_division o then not (b == 0) else if is_shift o then nat_lt b 32 else true

abbrev pub arithmetic : Op2 → Value → Value → Option Value
arithmetic o (Num a) (Num b) = if is_defined_on o b then Some (Num (word2 o a b)) else None
arithmetic o _ _ = None

-- ---- comparisons

abbrev pub less_op : (unsigned : Bool) → Op2
less_op true = op.Sltu
less_op false = op.Slt

abbrev pub negated : ℕ → ℕ
negated n = one_if (n == 0)

-- of words, by "less" and "equal"
abbrev pub related : Relation → Op2 → (a b : ℕ) → ℕ
related Less o a b = word2 o a b
related Greater o a b = word2 o b a
related LessEqual o a b = negated (word2 o b a)
related GreaterEqual o a b = negated (word2 o a b)
related Equal o a b = one_if (a == b)
related NotEqual o a b = negated (one_if (a == b))

abbrev pub numbers_compared : Relation → (unsigned : Bool) → Value → Value → Option ℕ
numbers_compared r u (Num a) (Num b) = Some (related r (less_op u) a b)
numbers_compared r u _ _ = None

abbrev pub is_live_address : Value → Memory → Bool
is_live_address (At b o) m = is_live (block_named b m)
is_live_address v m = false

-- Addresses in one live object are in order (6.5.8p5).
abbrev pub addresses_ordered : Relation → Value → Value → Memory → Option ℕ
addresses_ordered r (At b o) (At c p) m = if same_block b c && is_live_address (At b o) m then Some (related r op.Sltu o p) else None
addresses_ordered r _ _ m = None

abbrev pub negated_option : Option ℕ → Option ℕ
negated_option None = None
negated_option (Some n) = Some (negated n)

abbrev pub pointers_compared : Relation → Value → Value → Memory → Option ℕ
pointers_compared Equal a b m = pointers_equal a b m
pointers_compared NotEqual a b m = negated_option (pointers_equal a b m)
pointers_compared r a b m = addresses_ordered r a b m

-- operands of this type compared
abbrev pub compared : Relation → TypeTree → Value → Value → Memory → Option ℕ
compared r t a b m = if is_pointer t then pointers_compared r a b m else numbers_compared r (is_unsigned t) a b

-- Whether a value is true: a number, or an address, is so unless it is 0. Of an integer type it has to be a number.
abbrev pub truth : TypeTree → Value → Option Bool
truth t (Num w) = Some (not (w == 0))
truth t (At b o) = if is_pointer t then Some true else None
truth t Bad = None

-- ---- pointers (6.5.6p8)

abbrev pub at_offset : BlockName → (is_inside : Bool) → ℕ → Option Value
at_offset b true o = Some (At b o)
at_offset b false o = None

-- n bytes up from an offset, or down from it
abbrev pub moved_up : BlockName → (offset bytes : ℕ) → Option Value
moved_up b o n = at_offset b (nat_le (o + n) b.size) (o + n)

abbrev pub moved_down : BlockName → (offset bytes : ℕ) → Option Value
moved_down b o n = at_offset b (nat_le n o) (o - n)

abbrev pub is_negative : (unsigned : Bool) → ℕ → Bool
is_negative unsigned w = not unsigned && nat_le (2 ^ 31) w

-- An address in a live object moves by whole elements, up or down, within the object and to its end, without wrapping.
abbrev pub elements_on : (up unsigned : Bool) → (size : ℕ) → BlockName → (offset number : ℕ) → Option Value
elements_on true u size b o w = if is_negative u w then moved_down b o ((2 ^ 32 - w) * size) else moved_up b o (w * size)
elements_on false u size b o w = if is_negative u w then moved_up b o ((2 ^ 32 - w) * size) else moved_down b o (w * size)

abbrev pub pointer_moved : (up : Bool) → (size : ℕ) → (integer : TypeTree) → (pointer number : Value) → Memory → Option Value
pointer_moved up size t (At b o) (Num w) m = if is_live_address (At b o) m then elements_on up (is_unsigned t) size b o w else None
pointer_moved up size t _ _ m = None

-- the difference of two addresses in one live object, in elements
abbrev pub pointer_difference : (size : ℕ) → Value → Value → Memory → Option Value
pointer_difference size (At b o) (At c p) m =
    if same_block b c && is_live_address (At b o) m then Some (Num (word2 op.Div (word2 op.Sub o p) (size % 2 ^ 32))) else None
pointer_difference size _ _ m = None

-- the address of a member at an offset
abbrev pub member_address : Value → (offset : ℕ) → Memory → Option Value
member_address (At b o) n m = if is_live_address (At b o) m then moved_up b o n else None
member_address v n m = None

-- the address some bytes into an object
abbrev pub bytes_into : Value → ℕ → Value
bytes_into (At b o) n = At b (o + n)
bytes_into v n = v
