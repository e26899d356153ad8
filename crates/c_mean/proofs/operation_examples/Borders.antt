-- Worked rows: both sides of each border of the laws.
use Rattle.std.specs.Prelude.{◌≡◌, refl, true, false, [], ◌∷◌, Some, None, IsSome}
use Rattle.val_core.specs.declared.values.BlockName.{BlockName}
use Rattle.val_core.specs.declared.values.Value.TheVariants.{Num, At, Bad}
use Rattle.val_core.specs.declared.operation.Op2.TheVariants as op
use Rattle.val_core.specs.Memory.{Memory, load, store, pointers_equal}
use Rattle.c_type.specs.declared.scalar.Scalar.TheVariants as scalar
use Rattle.c_type.specs.Trees.{TypeTree, scalar_type, pointer_to}
use Rattle.c_typed.specs.declared.operator.Relation.TheVariants as relation
use Rattle.c_typed.proofs.lemmas.ShortForms.{int}
use Rattle.c_mean.specs.State.{converted, truth, arithmetic, numbers_compared, addresses_ordered, pointer_moved, pointer_difference, member_address}

-- three numbers of four bytes, of which the last has no value yet; four bytes and one; a constant byte; an object whose
-- lifetime has ended; and one of 2^31 bytes, without leaves
abbrev numbers : BlockName
numbers = record { number = 0; size = 12 }

abbrev pair : BlockName
pair = record { number = 1; size = 8 }

abbrev constant : BlockName
constant = record { number = 2; size = 1 }

abbrev gone : BlockName
gone = record { number = 3; size = 4 }

abbrev great : BlockName
great = record { number = 4; size = 2147483648 }

abbrev memory : Memory
memory =
    record {
      size = 12;
      cells =
          record { leaf = record { offset = 0; width = 4 }; value = Some (Num 7) } ∷ record { leaf = record { offset = 4; width = 4 }; value = Some (Num 8) } ∷
          record { leaf = record { offset = 8; width = 4 }; value = None } ∷ [];
      live = true;
      fixed = false;
    } ∷
    record {
      size = 8;
      cells = record { leaf = record { offset = 0; width = 4 }; value = Some (At numbers 4) } ∷ record { leaf = record { offset = 4; width = 1 }; value = Some (Num 9) } ∷ [];
      live = true;
      fixed = false;
    } ∷
    record { size = 1; cells = record { leaf = record { offset = 0; width = 1 }; value = Some (Num 97) } ∷ []; live = true; fixed = true } ∷
    record { size = 4; cells = record { leaf = record { offset = 0; width = 4 }; value = Some (Num 5) } ∷ []; live = false; fixed = false } ∷
    record { size = 2147483648; cells = []; live = true; fixed = false } ∷ []

abbrev unsigned : TypeTree
unsigned = scalar_type scalar.UnsignedInt

-- ---- numbers

quotient_by_one : arithmetic op.Div (Num 7) (Num 1) ≡ Some (Num 7)
quotient_by_one = refl

quotient_by_zero : arithmetic op.Div (Num 7) (Num 0) ≡ None
quotient_by_zero = refl

remainder_by_one : arithmetic op.Rem (Num 7) (Num 1) ≡ Some (Num 0)
remainder_by_one = refl

remainder_by_zero : arithmetic op.Rem (Num 7) (Num 0) ≡ None
remainder_by_zero = refl

unsigned_quotient_by_one : arithmetic op.Divu (Num 7) (Num 1) ≡ Some (Num 7)
unsigned_quotient_by_one = refl

unsigned_quotient_by_zero : arithmetic op.Divu (Num 7) (Num 0) ≡ None
unsigned_quotient_by_zero = refl

unsigned_remainder_by_one : arithmetic op.Remu (Num 7) (Num 1) ≡ Some (Num 0)
unsigned_remainder_by_one = refl

unsigned_remainder_by_zero : arithmetic op.Remu (Num 7) (Num 0) ≡ None
unsigned_remainder_by_zero = refl

-- 7 / -1, and the least number by -1, which wraps
quotient_by_minus_one : arithmetic op.Div (Num 7) (Num 4294967295) ≡ Some (Num 4294967289)
quotient_by_minus_one = refl

least_by_minus_one : arithmetic op.Div (Num 2147483648) (Num 4294967295) ≡ Some (Num 2147483648)
least_by_minus_one = refl

zero_by_one : arithmetic op.Div (Num 0) (Num 1) ≡ Some (Num 0)
zero_by_one = refl

left_by_0 : arithmetic op.Sll (Num 1) (Num 0) ≡ Some (Num 1)
left_by_0 = refl

left_by_31 : arithmetic op.Sll (Num 3) (Num 31) ≡ Some (Num 2147483648)
left_by_31 = refl

left_by_32 : arithmetic op.Sll (Num 3) (Num 32) ≡ None
left_by_32 = refl

left_by_minus_one : arithmetic op.Sll (Num 3) (Num 4294967295) ≡ None
left_by_minus_one = refl

right_by_31 : arithmetic op.Srl (Num 2147483648) (Num 31) ≡ Some (Num 1)
right_by_31 = refl

right_by_32 : arithmetic op.Srl (Num 2147483648) (Num 32) ≡ None
right_by_32 = refl

signed_right_by_31 : arithmetic op.Sra (Num 2147483648) (Num 31) ≡ Some (Num 4294967295)
signed_right_by_31 = refl

signed_right_by_32 : arithmetic op.Sra (Num 2147483648) (Num 32) ≡ None
signed_right_by_32 = refl

no_sum_of_an_address : arithmetic op.Add (At numbers 0) (Num 0) ≡ None
no_sum_of_an_address = refl

no_sum_with_an_address : arithmetic op.Add (Num 0) (At numbers 0) ≡ None
no_sum_with_an_address = refl

no_sum_without_a_value : arithmetic op.Add (Num 0) Bad ≡ None
no_sum_without_a_value = refl

less_as_signed : numbers_compared relation.Less false (Num 4294967295) (Num 0) ≡ Some 1
less_as_signed = refl

not_less_as_unsigned : numbers_compared relation.Less true (Num 4294967295) (Num 0) ≡ Some 0
not_less_as_unsigned = refl

no_number_is_an_address : numbers_compared relation.Equal false (Num 0) (At numbers 0) ≡ None
no_number_is_an_address = refl

-- ---- conversions and conditions

to_a_byte : converted (scalar_type scalar.SignedChar) (Num 200) ≡ Num 4294967240
to_a_byte = refl

no_address_to_a_byte : converted (scalar_type scalar.UnsignedChar) (At numbers 0) ≡ Bad
no_address_to_a_byte = refl

no_address_to_two_bytes : converted (scalar_type scalar.Short) (At numbers 0) ≡ Bad
no_address_to_two_bytes = refl

address_to_four_bytes : converted unsigned (At numbers 0) ≡ At numbers 0
address_to_four_bytes = refl

nothing_to_four_bytes : converted unsigned Bad ≡ Bad
nothing_to_four_bytes = refl

null_is_false : truth (pointer_to int) (Num 0) ≡ Some false
null_is_false = refl

address_is_true : truth (pointer_to int) (At gone 0) ≡ Some true
address_is_true = refl

no_address_as_a_number : truth int (At numbers 0) ≡ None
no_address_as_a_number = refl

nothing_is_not_false : truth int Bad ≡ None
nothing_is_not_false = refl

-- ---- moved pointers

to_the_end : pointer_moved true 4 int (At numbers 8) (Num 1) memory ≡ Some (At numbers 12)
to_the_end = refl

past_the_end : pointer_moved true 4 int (At numbers 12) (Num 1) memory ≡ None
past_the_end = refl

one_byte_past_the_end : pointer_moved true 1 int (At numbers 12) (Num 1) memory ≡ None
one_byte_past_the_end = refl

back_to_the_start : pointer_moved true 4 int (At numbers 4) (Num 4294967295) memory ≡ Some (At numbers 0)
back_to_the_start = refl

before_the_start : pointer_moved true 4 int (At numbers 0) (Num 4294967295) memory ≡ None
before_the_start = refl

-- an unsigned number is never negative
far_beyond : pointer_moved true 4 unsigned (At numbers 4) (Num 4294967295) memory ≡ None
far_beyond = refl

down_to_the_start : pointer_moved false 4 int (At numbers 4) (Num 1) memory ≡ Some (At numbers 0)
down_to_the_start = refl

down_before_the_start : pointer_moved false 4 int (At numbers 0) (Num 1) memory ≡ None
down_before_the_start = refl

down_by_minus_one : pointer_moved false 4 int (At numbers 8) (Num 4294967295) memory ≡ Some (At numbers 12)
down_by_minus_one = refl

down_by_minus_one_at_the_end : pointer_moved false 4 int (At numbers 12) (Num 4294967295) memory ≡ None
down_by_minus_one_at_the_end = refl

down_far : pointer_moved false 4 unsigned (At numbers 8) (Num 4294967295) memory ≡ None
down_far = refl

-- 2^31 - 1 is the greatest number, and 2^31 stands for -2^31 where it is signed
by_the_greatest : pointer_moved true 1 int (At great 0) (Num 2147483647) memory ≡ Some (At great 2147483647)
by_the_greatest = refl

by_the_least : pointer_moved true 1 int (At great 2147483648) (Num 2147483648) memory ≡ Some (At great 0)
by_the_least = refl

by_the_least_too_far : pointer_moved true 1 int (At great 2147483647) (Num 2147483648) memory ≡ None
by_the_least_too_far = refl

by_as_much_unsigned : pointer_moved true 1 unsigned (At great 0) (Num 2147483648) memory ≡ Some (At great 2147483648)
by_as_much_unsigned = refl

-- bytes are counted without wrapping: 2^30 numbers of four bytes are 2^32 bytes
does_not_wrap : pointer_moved true 4 int (At numbers 4) (Num 1073741824) memory ≡ None
does_not_wrap = refl

by_nothing : pointer_moved true 4 int (At numbers 0) (Num 0) memory ≡ Some (At numbers 0)
by_nothing = refl

by_nothing_when_gone : pointer_moved true 4 int (At gone 0) (Num 0) memory ≡ None
by_nothing_when_gone = refl

null_by_nothing : pointer_moved true 4 int (Num 0) (Num 0) memory ≡ None
null_by_nothing = refl

by_no_value : pointer_moved true 4 int (At numbers 0) Bad memory ≡ None
by_no_value = refl

by_an_address : pointer_moved true 4 int (At numbers 0) (At numbers 0) memory ≡ None
by_an_address = refl

-- ---- order and difference

before_the_end : addresses_ordered relation.Less (At numbers 8) (At numbers 12) memory ≡ Some 1
before_the_end = refl

not_before_itself : addresses_ordered relation.Less (At numbers 8) (At numbers 8) memory ≡ Some 0
not_before_itself = refl

no_order_of_two_objects : addresses_ordered relation.Less (At numbers 0) (At pair 4) memory ≡ None
no_order_of_two_objects = refl

no_order_when_gone : addresses_ordered relation.Less (At gone 0) (At gone 4) memory ≡ None
no_order_when_gone = refl

no_order_with_null : addresses_ordered relation.Less (Num 0) (At numbers 4) memory ≡ None
no_order_with_null = refl

apart_by_three : pointer_difference 4 (At numbers 12) (At numbers 0) memory ≡ Some (Num 3)
apart_by_three = refl

apart_by_minus_one : pointer_difference 4 (At numbers 4) (At numbers 8) memory ≡ Some (Num 4294967295)
apart_by_minus_one = refl

no_difference_of_two_objects : pointer_difference 4 (At numbers 0) (At pair 0) memory ≡ None
no_difference_of_two_objects = refl

no_difference_when_gone : pointer_difference 4 (At gone 4) (At gone 0) memory ≡ None
no_difference_when_gone = refl

no_difference_of_nulls : pointer_difference 4 (Num 0) (Num 0) memory ≡ None
no_difference_of_nulls = refl

-- ---- equality

one_place : pointers_equal (At numbers 4) (At numbers 4) memory ≡ Some 1
one_place = refl

end_and_start : pointers_equal (At numbers 12) (At pair 0) memory ≡ Some 0
end_and_start = refl

one_is_gone : pointers_equal (At numbers 0) (At gone 0) memory ≡ None
one_is_gone = refl

other_is_gone : pointers_equal (At gone 0) (At numbers 0) memory ≡ None
other_is_gone = refl

null_and_live : pointers_equal (Num 0) (At numbers 0) memory ≡ Some 0
null_and_live = refl

null_and_gone : pointers_equal (At gone 0) (Num 0) memory ≡ Some 0
null_and_gone = refl

no_address_is_a_number : pointers_equal (At numbers 0) (Num 1) memory ≡ None
no_address_is_a_number = refl

null_and_null : pointers_equal (Num 0) (Num 0) memory ≡ Some 1
null_and_null = refl

null_and_no_value : pointers_equal (Num 0) Bad memory ≡ None
null_and_no_value = refl

-- ---- members

last_member : member_address (At pair 0) 4 memory ≡ Some (At pair 4)
last_member = refl

member_at_the_end : member_address (At pair 4) 4 memory ≡ Some (At pair 8)
member_at_the_end = refl

member_past_the_end : member_address (At pair 5) 4 memory ≡ None
member_past_the_end = refl

member_when_gone : member_address (At gone 0) 0 memory ≡ None
member_when_gone = refl

member_of_null : member_address (Num 0) 4 memory ≡ None
member_of_null = refl

-- ---- loads

loaded : load 4 (At numbers 4) memory ≡ Some (Num 8)
loaded = refl

no_value_yet : load 4 (At numbers 8) memory ≡ None
no_value_yet = refl

nothing_at_the_end : load 4 (At numbers 12) memory ≡ None
nothing_at_the_end = refl

no_leaf_of_two_bytes : load 2 (At numbers 4) memory ≡ None
no_leaf_of_two_bytes = refl

no_leaf_at_five : load 4 (At numbers 5) memory ≡ None
no_leaf_at_five = refl

no_leaf_of_four_bytes : load 4 (At pair 4) memory ≡ None
no_leaf_of_four_bytes = refl

loaded_constant : load 1 (At constant 0) memory ≡ Some (Num 97)
loaded_constant = refl

not_loaded_when_gone : load 4 (At gone 0) memory ≡ None
not_loaded_when_gone = refl

not_loaded_from_null : load 4 (Num 0) memory ≡ None
not_loaded_from_null = refl

-- ---- stores

stored : IsSome (store 4 (At numbers 4) (Num 1) memory)
stored = refl

stored_first : IsSome (store 4 (At numbers 8) (Num 1) memory)
stored_first = refl

not_stored_at_the_end : store 4 (At numbers 12) (Num 1) memory ≡ None
not_stored_at_the_end = refl

not_stored_in_two_bytes : store 2 (At numbers 4) (Num 1) memory ≡ None
not_stored_in_two_bytes = refl

not_stored_at_five : store 4 (At numbers 5) (Num 1) memory ≡ None
not_stored_at_five = refl

stored_in_a_byte : IsSome (store 1 (At pair 4) (Num 300) memory)
stored_in_a_byte = refl

not_stored_in_a_constant : store 1 (At constant 0) (Num 98) memory ≡ None
not_stored_in_a_constant = refl

not_stored_when_gone : store 4 (At gone 0) (Num 1) memory ≡ None
not_stored_when_gone = refl

stored_address : IsSome (store 4 (At pair 0) (At numbers 12) memory)
stored_address = refl

no_address_in_a_byte : store 1 (At pair 4) (At numbers 0) memory ≡ None
no_address_in_a_byte = refl

no_value_is_stored : store 4 (At numbers 4) Bad memory ≡ None
no_value_is_stored = refl

not_stored_at_null : store 4 (Num 0) (Num 1) memory ≡ None
not_stored_at_null = refl
