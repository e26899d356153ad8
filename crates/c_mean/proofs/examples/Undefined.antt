-- Worked rows: undefined runs.
use Rattle.std.specs.Prelude.{◌≡◌, refl, true, false, [], ◌∷◌}
use Rattle.val_core.specs.declared.operation.Op2.TheVariants as op
use Rattle.c_type.specs.declared.scalar.Scalar.TheVariants as scalar
use Rattle.c_type.specs.Trees.{scalar_type, array_of}
use Rattle.c_typed.specs.declared.operator.Relation.TheVariants as relation
use Rattle.c_typed.specs.declared.operator.BinaryOp.TheVariants as binary_op
use Rattle.c_typed.specs.Typed.{expr, constant, address, binary, conditional, inc_dec, call, no_exprs, expr_then, place, local, global, at, some_expr, no_elements, value_then, initial_value, initial_elements, value, block, if_else, loop, return_value, no_items, stmt_then, declare_then, characters_at, ProgramTree}
use Rattle.c_mean.specs.Run.{undefined, heard}
use Rattle.c_typed.proofs.lemmas.ShortForms.{int, char, int_pointer, char_pointer, value_of, object_of, int_value, int_object, number, read_of, variable, computed, compared, converted, assigned, step_by, put, called, set, declare, begin, function, program_with, program}

-- int main(void) { putchar(65); int x; return x; }
abbrev reads_nothing : ProgramTree
reads_nothing = program 0 (function int 0 (int_value ∷ []) (stmt_then (value (put (number 65))) (declare 0 (stmt_then (return_value (variable 0)) no_items))) ∷ [])

reads_nothing-heard : heard 5 reads_nothing [] ≡ record { output = 65 ∷ []; rest = []; ending = undefined }
reads_nothing-heard = refl

-- int main(void) { int y; y; return 0; }
abbrev no_value_dropped : ProgramTree
no_value_dropped = program 0 (function int 0 (int_value ∷ []) (declare 0 (stmt_then (value (variable 0)) (stmt_then (return_value (number 0)) no_items))) ∷ [])

no_value_dropped-heard : heard 5 no_value_dropped [] ≡ record { output = []; rest = []; ending = undefined }
no_value_dropped-heard = refl

-- char f(int x) { } int main(void) { 1 ? f(0) : 2; return 3; }
abbrev result_converted : ProgramTree
result_converted =
    program 1
    (function char 1 (int_value ∷ []) no_items ∷
    function int 0 []
    (stmt_then (value (expr int (conditional (number 1) (converted int (expr char (call 0 (expr_then (number 0) no_exprs)))) (number 2)))) (stmt_then (return_value (number 3)) no_items)) ∷ [])

result_converted-heard : heard 5 result_converted [] ≡ record { output = []; rest = []; ending = undefined }
result_converted-heard = refl

-- int *f(void) { int x; return &x; } int main(void) { int *p = f(); return p == p; }
abbrev dead_is_compared : ProgramTree
dead_is_compared =
    program 1
    (function int_pointer 0 (int_object ∷ []) (declare 0 (stmt_then (return_value (expr int_pointer (address (place int (local 0))))) no_items)) ∷
    function int 0 (value_of int_pointer ∷ [])
    (begin 0 (expr int_pointer (call 0 no_exprs)) (stmt_then (return_value (compared relation.Equal (read_of int_pointer (local 0)) (read_of int_pointer (local 0)))) no_items)) ∷ [])

dead_is_compared-heard : heard 5 dead_is_compared [] ≡ record { output = []; rest = []; ending = undefined }
dead_is_compared-heard = refl

-- int main(void) { int *p = 0; p + 0; return 1; }
abbrev null_plus_zero : ProgramTree
null_plus_zero =
    program 0
    (function int 0 (value_of int_pointer ∷ [])
    (begin 0 (converted int_pointer (number 0)) (
    stmt_then (value (expr int_pointer (binary (binary_op.PointerPlus 4) (read_of int_pointer (local 0)) (number 0)))) (stmt_then (return_value (number 1)) no_items))) ∷ [])

null_plus_zero-heard : heard 5 null_plus_zero [] ≡ record { output = []; rest = []; ending = undefined }
null_plus_zero-heard = refl

-- int main(void) { int a[2] = {1}; a + 3; return 0; }
abbrev past_the_end : ProgramTree
past_the_end =
    program 0
    (function int 0 (object_of (array_of int 2) ∷ [])
    (declare_then (record { variable = 0; names_itself = false; initial = initial_elements (value_then 0 (number 1) no_elements) }) (
    stmt_then (value (expr int_pointer (binary (binary_op.PointerPlus 4) (expr int_pointer (address (place (array_of int 2) (local 0)))) (number 3)))) (
    stmt_then (return_value (number 0)) no_items))) ∷ [])

past_the_end-heard : heard 5 past_the_end [] ≡ record { output = []; rest = []; ending = undefined }
past_the_end-heard = refl

-- int main(void) { int a[2] = {1}; a + 1 + 4294967295u; return 0; }
abbrev far_beyond : ProgramTree
far_beyond =
    program 0
    (function int 0 (object_of (array_of int 2) ∷ [])
    (declare_then (record { variable = 0; names_itself = false; initial = initial_elements (value_then 0 (number 1) no_elements) }) (
    stmt_then
    (value
    (expr int_pointer
    (binary (binary_op.PointerPlus 4) (expr int_pointer (binary (binary_op.PointerPlus 4) (expr int_pointer (address (place (array_of int 2) (local 0)))) (number 1)))
    (expr (scalar_type scalar.UnsignedInt) (constant 4294967295))))) (
    stmt_then (return_value (number 0)) no_items))) ∷ [])

far_beyond-heard : heard 5 far_beyond [] ≡ record { output = []; rest = []; ending = undefined }
far_beyond-heard = refl

-- int main(void) { int *p = 0; *p = putchar(66); return 0; }
abbrev stores_last : ProgramTree
stores_last =
    program 0
    (function int 0 (value_of int_pointer ∷ [])
    (begin 0 (converted int_pointer (number 0)) (stmt_then (value (assigned int (at (read_of int_pointer (local 0))) (put (number 66)))) (stmt_then (return_value (number 0)) no_items))) ∷ [])

stores_last-heard : heard 5 stores_last [] ≡ record { output = 66 ∷ []; rest = []; ending = undefined }
stores_last-heard = refl

-- int main(void) { int *p = 0; p[0] = putchar(66); return 0; }
abbrev address_first : ProgramTree
address_first =
    program 0
    (function int 0 (value_of int_pointer ∷ [])
    (begin 0 (converted int_pointer (number 0)) (
    stmt_then (value (assigned int (at (expr int_pointer (binary (binary_op.PointerPlus 4) (read_of int_pointer (local 0)) (number 0)))) (put (number 66)))) (
    stmt_then (return_value (number 0)) no_items))) ∷ [])

address_first-heard : heard 5 address_first [] ≡ record { output = []; rest = []; ending = undefined }
address_first-heard = refl

-- int main(void) { int i; for (i = 0; i < 2; i++) { int j; if (i == 0) j = 7; else return j; } return 0; }
abbrev loses_its_value : ProgramTree
loses_its_value =
    program 0
    (function int 0 (int_value ∷ int_value ∷ [])
    (declare 0 (
    stmt_then
    (block
    (stmt_then (set 0 (number 0)) (
    stmt_then
    (loop (some_expr (compared relation.Less (variable 0) (number 2))) (some_expr (expr int (inc_dec (step_by true true 1) (place int (local 0)))))
    (block (declare 1 (stmt_then (if_else (compared relation.Equal (variable 0) (number 0)) (set 1 (number 7)) (return_value (variable 1))) no_items)))) no_items))) (
    stmt_then (return_value (number 0)) no_items))) ∷ [])

loses_its_value-heard : heard 5 loses_its_value [] ≡ record { output = []; rest = []; ending = undefined }
loses_its_value-heard = refl

-- int main(void) { char *s = "ab"; s[0] = 'c'; return 0; }
abbrev fixed : ProgramTree
fixed =
    program_with [] (record { at = 0; type = array_of char 3; fixed = true; written = characters_at 0 (97 ∷ 98 ∷ []) ∷ [] } ∷ []) 0
    (function int 0 (value_of char_pointer ∷ [])
    (begin 0 (expr char_pointer (address (place (array_of char 3) (global 0)))) (
    stmt_then (value (assigned char (at (expr char_pointer (binary (binary_op.PointerPlus 1) (read_of char_pointer (local 0)) (number 0)))) (converted char (number 99)))) (
    stmt_then (return_value (number 0)) no_items))) ∷ [])

fixed-heard : heard 5 fixed [] ≡ record { output = []; rest = []; ending = undefined }
fixed-heard = refl

-- int main(void) { int n = 32; return 1 << n; }
abbrev shift : ProgramTree
shift = program 0 (function int 0 (int_value ∷ []) (begin 0 (number 32) (stmt_then (return_value (computed op.Sll (number 1) (variable 0))) no_items)) ∷ [])

shift-heard : heard 5 shift [] ≡ record { output = []; rest = []; ending = undefined }
shift-heard = refl

-- int main(void) { int n = 0; return 1 % n; }
abbrev zero_divisor : ProgramTree
zero_divisor = program 0 (function int 0 (int_value ∷ []) (begin 0 (number 0) (stmt_then (return_value (computed op.Rem (number 1) (variable 0))) no_items)) ∷ [])

zero_divisor-heard : heard 5 zero_divisor [] ≡ record { output = []; rest = []; ending = undefined }
zero_divisor-heard = refl

-- int main(void) { int x = x; return 0; }
abbrev names_itself : ProgramTree
names_itself =
    program 0
    (function int 0 (int_value ∷ []) (declare_then (record { variable = 0; names_itself = true; initial = initial_value (variable 0) }) (stmt_then (return_value (number 0)) no_items)) ∷ [])

names_itself-heard : heard 2 names_itself [] ≡ record { output = []; rest = []; ending = undefined }
names_itself-heard = refl

-- int main(void) { putchar(65); return 1 / 0; }
abbrev divides_by_zero : ProgramTree
divides_by_zero =
    program 0 (function int 0 [] (stmt_then (value (put (number 65))) (stmt_then (return_value (computed op.Div (number 1) (number 0))) no_items)) ∷ [])

divides_by_zero-heard : heard 5 divides_by_zero [] ≡ record { output = 65 ∷ []; rest = []; ending = undefined }
divides_by_zero-heard = refl

-- int f(void) { } int main(void) { int y = f(); return 3; }
abbrev result_begins : ProgramTree
result_begins =
    program 1 (function int 0 [] no_items ∷ function int 0 (int_value ∷ []) (begin 0 (called 0 no_exprs) (stmt_then (return_value (number 3)) no_items)) ∷ [])

result_begins-heard : heard 5 result_begins [] ≡ record { output = []; rest = []; ending = undefined }
result_begins-heard = refl

-- int f(void) { } int main(void) { int y; y = f(); return 3; }
abbrev result_assigned : ProgramTree
result_assigned =
    program 1 (function int 0 [] no_items ∷ function int 0 (int_value ∷ []) (declare 0 (stmt_then (set 0 (called 0 no_exprs)) (stmt_then (return_value (number 3)) no_items))) ∷ [])

result_assigned-heard : heard 5 result_assigned [] ≡ record { output = []; rest = []; ending = undefined }
result_assigned-heard = refl

-- int f(void) { } int g(int a) { return 3; } int main(void) { return g(f()); }
abbrev result_passed : ProgramTree
result_passed =
    program 2
    (function int 0 [] no_items ∷
    function int 1 (int_value ∷ []) (stmt_then (return_value (number 3)) no_items) ∷
    function int 0 [] (stmt_then (return_value (called 1 (expr_then (called 0 no_exprs) no_exprs))) no_items) ∷ [])

result_passed-heard : heard 5 result_passed [] ≡ record { output = []; rest = []; ending = undefined }
result_passed-heard = refl
