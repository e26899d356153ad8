-- Worked rows: programs whose operations have a value, each beside one that is undefined one step further.
use Rattle.std.specs.Prelude.{◌≡◌, refl, ℕ, true, false, [], ◌∷◌}
use Rattle.val_core.specs.declared.operation.Op2.TheVariants as op
use Rattle.c_type.specs.declared.scalar.Scalar.TheVariants as scalar
use Rattle.c_type.specs.Trees.{TypeTree, scalar_type, pointer_to, array_of}
use Rattle.c_typed.specs.declared.operator.Relation.TheVariants as relation
use Rattle.c_typed.specs.declared.operator.UnaryOp.TheVariants as unary_op
use Rattle.c_typed.specs.declared.operator.BinaryOp.{BinaryOp}
use Rattle.c_typed.specs.declared.operator.BinaryOp.TheVariants as binary_op
use Rattle.c_typed.specs.Typed.{ExprTree, expr, constant, address, unary, binary, inc_dec, place, local, at, no_elements, value_then, initial_elements, value, return_value, ItemTrees, no_items, stmt_then, ProgramTree}
use Rattle.c_mean.specs.Run.{exit, undefined, heard}
use Rattle.c_typed.proofs.lemmas.ShortForms.{int, int_pointer, value_of, object_of, int_value, number, read_of, variable, computed, compared, converted, step_by, put, begin_with, begin, function, program}

abbrev unsigned : TypeTree
unsigned = scalar_type scalar.UnsignedInt

abbrev short : TypeTree
short = scalar_type scalar.Short

abbrev minus : ℕ → ExprTree
minus w = expr int (unary unary_op.Negate (number w))

-- int main(void) { int n = ..; return ..; }
abbrev with_number : ExprTree → ExprTree → ProgramTree
with_number n e = program 0 (function int 0 (int_value ∷ []) (begin 0 n (stmt_then (return_value e) no_items)) ∷ [])

-- ---- shifts

-- int main(void) { int n = 31; return (1 << n) < 0; }
shifts_by_31 : heard 1 (with_number (number 31) (compared relation.Less (computed op.Sll (number 1) (variable 0)) (number 0))) [] ≡ record { output = []; rest = []; ending = exit 1 }
shifts_by_31 = refl

-- int main(void) { int n = 32; return (1 << n) < 0; }
shifts_by_32 : heard 1 (with_number (number 32) (compared relation.Less (computed op.Sll (number 1) (variable 0)) (number 0))) [] ≡ record { output = []; rest = []; ending = undefined }
shifts_by_32 = refl

-- int main(void) { int n = -1; return 1 << n; }
shifts_by_minus_one : heard 1 (with_number (minus 1) (computed op.Sll (number 1) (variable 0))) [] ≡ record { output = []; rest = []; ending = undefined }
shifts_by_minus_one = refl

abbrev unsigned_shift : ExprTree → ExprTree
unsigned_shift n = converted int (expr unsigned (binary (binary_op.Arithmetic op.Srl) (expr unsigned (constant 4294967295)) n))

-- int main(void) { int n = 31; return 4294967295u >> n; }
unsigned_shifts_by_31 : heard 1 (with_number (number 31) (unsigned_shift (variable 0))) [] ≡ record { output = []; rest = []; ending = exit 1 }
unsigned_shifts_by_31 = refl

-- int main(void) { int n = 32; return 4294967295u >> n; }
unsigned_shifts_by_32 : heard 1 (with_number (number 32) (unsigned_shift (variable 0))) [] ≡ record { output = []; rest = []; ending = undefined }
unsigned_shifts_by_32 = refl

-- ---- division

-- int main(void) { int n = 47; return n / 5 * 10 + n % 5; }
divides : heard 1
    (with_number (number 47) (computed op.Add (computed op.Mul (computed op.Div (variable 0) (number 5)) (number 10)) (computed op.Rem (variable 0) (number 5)))) []
    ≡ record { output = []; rest = []; ending = exit 92 }
divides = refl

-- whether a quotient and a remainder are these
abbrev divided : (a b quotient remainder : ExprTree) → ExprTree
divided a b q r = computed op.And (compared relation.Equal (computed op.Div a b) q) (compared relation.Equal (computed op.Rem a b) r)

-- int main(void) { int n = -7; return (n / 2 == -3) & (n % 2 == -1); }
divides_a_negative_number : heard 1 (with_number (minus 7) (divided (variable 0) (number 2) (minus 3) (minus 1))) [] ≡ record { output = []; rest = []; ending = exit 1 }
divides_a_negative_number = refl

-- int main(void) { int n = -2; return (7 / n == -3) & (7 % n == 1); }
divides_by_a_negative_number : heard 1 (with_number (minus 2) (divided (number 7) (variable 0) (minus 3) (number 1))) [] ≡ record { output = []; rest = []; ending = exit 1 }
divides_by_a_negative_number = refl

-- int main(void) { int n = -2; return (-7 / n == 3) & (-7 % n == -1); }
divides_two_negative_numbers : heard 1 (with_number (minus 2) (divided (minus 7) (variable 0) (number 3) (minus 1))) [] ≡ record { output = []; rest = []; ending = exit 1 }
divides_two_negative_numbers = refl

-- int main(void) { int n = 0; return 7 / n; }
divides_by_zero : heard 1 (with_number (number 0) (computed op.Div (number 7) (variable 0))) [] ≡ record { output = []; rest = []; ending = undefined }
divides_by_zero = refl

-- ---- bits

-- int main(void) { int n = 5; return (~n == -6) + (n ^ 12); }
turns_bits : heard 1
    (with_number (number 5) (computed op.Add (compared relation.Equal (expr int (unary unary_op.Complement (variable 0))) (minus 6)) (computed op.Xor (variable 0) (number 12)))) []
    ≡ record { output = []; rest = []; ending = exit 10 }
turns_bits = refl

-- ---- pointers

-- int main(void) { int a[2] = {5, 6}; .. }
abbrev with_array : (type : TypeTree) → ExprTree → ItemTrees → ProgramTree
with_array t e is =
    program 0
    (function int 0 (object_of (array_of int 2) ∷ value_of t ∷ []) (begin_with 0 (initial_elements (value_then 0 (number 5) (value_then 4 (number 6) no_elements))) (begin 1 e is)) ∷ [])

abbrev array : ExprTree
array = expr int_pointer (address (place (array_of int 2) (local 0)))

abbrev moved : BinaryOp → (a b : ExprTree) → ExprTree
moved o a b = expr int_pointer (binary o a b)

abbrev after : ℕ → ExprTree
after n = moved (binary_op.PointerPlus 4) array (number n)

abbrev pointer : ExprTree
pointer = read_of int_pointer (local 1)

-- int main(void) { int a[2] = {5, 6}; int *p = ..; return ..; }
abbrev with_pointer : (start result : ExprTree) → ProgramTree
with_pointer e r = with_array int_pointer e (stmt_then (return_value r) no_items)

-- p = a + 2; return (a < p) + (p < a);
orders_pointers : heard 1 (with_pointer (after 2) (computed op.Add (compared relation.Less array pointer) (compared relation.Less pointer array))) []
    ≡ record { output = []; rest = []; ending = exit 1 }
orders_pointers = refl

-- p = 0; return a < p;
orders_no_null : heard 1 (with_pointer (converted int_pointer (number 0)) (compared relation.Less array pointer)) [] ≡ record { output = []; rest = []; ending = undefined }
orders_no_null = refl

-- p = a + 1; return p[-1];
goes_back_by_an_index : heard 1 (with_pointer (after 1) (read_of int (at (moved (binary_op.PointerPlus 4) pointer (minus 1))))) [] ≡ record { output = []; rest = []; ending = exit 5 }
goes_back_by_an_index = refl

-- p = a; return p[-1];
goes_back_too_far : heard 1 (with_pointer array (read_of int (at (moved (binary_op.PointerPlus 4) pointer (minus 1))))) [] ≡ record { output = []; rest = []; ending = undefined }
goes_back_too_far = refl

-- p = a + 2; return *(p - 1);
subtracts_a_number : heard 1 (with_pointer (after 2) (read_of int (at (moved (binary_op.PointerMinus 4) pointer (number 1))))) [] ≡ record { output = []; rest = []; ending = exit 6 }
subtracts_a_number = refl

-- p = a + 2; p - 3; return 0;
subtracts_too_much : heard 1 (with_array int_pointer (after 2) (stmt_then (value (moved (binary_op.PointerMinus 4) pointer (number 3))) (stmt_then (return_value (number 0)) no_items))) []
    ≡ record { output = []; rest = []; ending = undefined }
subtracts_too_much = refl

-- p = a; return *(1 + p);
adds_to_a_number : heard 1 (with_pointer array (read_of int (at (moved (binary_op.IntegerPlus 4) (number 1) pointer)))) [] ≡ record { output = []; rest = []; ending = exit 6 }
adds_to_a_number = refl

-- p = a; return *(2 + p);
reads_no_end : heard 1 (with_pointer array (read_of int (at (moved (binary_op.IntegerPlus 4) (number 2) pointer)))) [] ≡ record { output = []; rest = []; ending = undefined }
reads_no_end = refl

-- p = ..; p--; return *p;
abbrev steps_down : (start : ExprTree) → ProgramTree
steps_down e =
    with_array int_pointer e
    (stmt_then (value (expr int_pointer (inc_dec (step_by false true 4) (place int_pointer (local 1))))) (stmt_then (return_value (read_of int (at pointer))) no_items))

-- p = a + 2;
steps_down_from_the_end : heard 1 (steps_down (after 2)) [] ≡ record { output = []; rest = []; ending = exit 6 }
steps_down_from_the_end = refl

-- p = a;
steps_down_from_the_start : heard 1 (steps_down array) [] ≡ record { output = []; rest = []; ending = undefined }
steps_down_from_the_start = refl

-- ---- narrow numbers

-- int main(void) { short s = 40000; return s == -25536; }
is_short : heard 1
    (program 0
    (function int 0 (value_of short ∷ [])
    (begin 0 (converted short (number 40000)) (stmt_then (return_value (compared relation.Equal (converted int (read_of short (local 0))) (minus 25536))) no_items)) ∷ [])) []
    ≡ record { output = []; rest = []; ending = exit 1 }
is_short = refl

-- int main(void) { short a[2] = {1, 40000}; return a[1] == -25536; }
is_short_in_memory : heard 1
    (program 0
    (function int 0 (object_of (array_of short 2) ∷ [])
    (begin_with 0 (initial_elements (value_then 0 (converted short (number 1)) (value_then 2 (converted short (number 40000)) no_elements)))
    (stmt_then
    (return_value
    (compared relation.Equal
    (converted int (read_of short (at (expr (pointer_to short) (binary (binary_op.PointerPlus 2) (expr (pointer_to short) (address (place (array_of short 2) (local 0)))) (number 1))))))
    (minus 25536))) no_items)) ∷ [])) []
    ≡ record { output = []; rest = []; ending = exit 1 }
is_short_in_memory = refl

-- ---- the end of main

-- int main(void) { putchar(65); }
ends_without_return : heard 1 (program 0 (function int 0 [] (stmt_then (value (put (number 65))) no_items) ∷ [])) [] ≡ record { output = 65 ∷ []; rest = []; ending = exit 0 }
ends_without_return = refl
