-- The definitions on small values, memories and answers.
use Rattle.std.proofs.Common.{◌≡◌, ℕ, [], ◌∷◌, None, Some, option_and_then, refl}
use Rattle.val_core.specs.Values.{BlockName, Num, At, Bad, value2}
use Rattle.val_core.specs.Memory.{Memory, new_block, load, store, cleared, closed, pointers_equal}
use Rattle.val_core.specs.Events.{wrote, took, met, output, deepest}
use Rattle.val_core.specs.Answers.{Answer, Returned, Undefined, then_on, on_number, active, events}
use Rattle.val_core.specs.declared.operation.Op2.TheVariants.{Add, Sub, Mul, Sltu, Eq}

-- two objects of twelve bytes, and one of an int and a char
abbrev a : BlockName
a = record { number = 0; size = 12 }

abbrev b : BlockName
b = record { number = 1; size = 12 }

abbrev pair : BlockName
pair = record { number = 0; size = 8 }

abbrev memory : Memory
memory = new_block 8 (record { offset = 0; width = 4 } ∷ record { offset = 4; width = 1 } ∷ []) ∷ []

-- ---- values

to_the_end : value2 Add (At a 8) (Num 4) ≡ At a 12
to_the_end = refl

past_the_end : value2 Add (At a 8) (Num 5) ≡ Bad
past_the_end = refl

backwards : value2 Add (Num 4294967292) (At a 8) ≡ At a 4
backwards = refl

before_the_start : value2 Sub (At a 0) (Num 1) ≡ Bad
before_the_start = refl

apart_by : value2 Sub (At a 12) (At a 4) ≡ Num 8
apart_by = refl

below_in_one_block : value2 Sltu (At a 4) (At a 8) ≡ Num 1
below_in_one_block = refl

of_two_blocks : value2 Sub (At a 4) (At b 4) ≡ Bad
of_two_blocks = refl

no_products : value2 Mul (At a 0) (Num 1) ≡ Bad
no_products = refl

no_equal_words : value2 Eq (At a 0) (At a 0) ≡ Bad
no_equal_words = refl

-- ---- memory

no_value_yet : load 4 (At pair 0) memory ≡ None
no_value_yet = refl

low_bits_stay : option_and_then (load 1 (At pair 4)) (store 1 (At pair 4) (Num 300) memory) ≡ Some (Num 44)
low_bits_stay = refl

address_needs_four_bytes : store 1 (At pair 4) (At a 0) memory ≡ None
address_needs_four_bytes = refl

address_stays : option_and_then (load 4 (At pair 0)) (store 4 (At pair 0) (At a 4) memory) ≡ Some (At a 4)
address_stays = refl

bad_is_not_stored : store 4 (At pair 0) Bad memory ≡ None
bad_is_not_stored = refl

no_such_leaf : store 4 (At pair 4) (Num 1) memory ≡ None
no_such_leaf = refl

no_such_block : store 4 (At b 0) (Num 1) memory ≡ None
no_such_block = refl

not_after_its_lifetime : load 4 (At pair 0) (closed 0 1 (cleared pair memory)) ≡ None
not_after_its_lifetime = refl

zero_after_clear : load 1 (At pair 4) (cleared pair memory) ≡ Some (Num 0)
zero_after_clear = refl

-- ---- equal pointers

null_is_no_address : pointers_equal (At pair 0) (Num 0) (closed 0 1 memory) ≡ Some 0
null_is_no_address = refl

no_other_word : pointers_equal (At pair 0) (Num 4) memory ≡ None
no_other_word = refl

one_address : pointers_equal (At pair 4) (At pair 4) memory ≡ Some 1
one_address = refl

of_a_dead_object : pointers_equal (At pair 4) (At pair 4) (closed 0 1 memory) ≡ None
of_a_dead_object = refl

-- ---- answers: function 7 writes 65 and calls function 3, which writes 66

abbrev run : Answer ℕ
run = active 7 (then_on (Returned 1 (wrote 65 ∷ [])) (λ x. active 3 (Returned x (wrote 66 ∷ []))))

writes_in_order : output (events run) ≡ 65 ∷ 66 ∷ []
writes_in_order = refl

stacks_are_met : events run ≡ met (7 ∷ []) ∷ wrote 65 ∷ met (7 ∷ 3 ∷ []) ∷ wrote 66 ∷ []
stacks_are_met = refl

deepest_sum : deepest (λ f. f) (events run) ≡ 10
deepest_sum = refl

-- what is undefined comes after 65 was written and 10 was taken, within a call
abbrev stopped : Answer ℕ
stopped = active 7 (then_on (Returned Bad (wrote 65 ∷ took 10 ∷ [])) (λ x. on_number x (λ w. Returned w (wrote 66 ∷ []))))

undefined_keeps_events : stopped ≡ Undefined (met (7 ∷ []) ∷ wrote 65 ∷ took 10 ∷ [])
undefined_keeps_events = refl

taken_bytes_are_no_output : output (events stopped) ≡ 65 ∷ []
taken_bytes_are_no_output = refl
