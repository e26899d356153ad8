-- Worked rows: runs that end or are cut.
use Rattle.std.specs.Prelude.{◌≡◌, refl, true, false, [], ◌∷◌}
use Rattle.val_core.specs.declared.operation.Op2.TheVariants as op
use Rattle.c_type.specs.declared.scalar.Scalar.TheVariants as scalar
use Rattle.c_type.specs.Trees.{void_type, scalar_type, pointer_to, array_of, struct_type}
use Rattle.c_typed.specs.declared.operator.Relation.TheVariants as relation
use Rattle.c_typed.specs.declared.operator.UnaryOp.TheVariants as unary_op
use Rattle.c_typed.specs.declared.operator.BinaryOp.TheVariants as binary_op
use Rattle.c_typed.specs.declared.operator.CompoundOp.TheVariants as compound_op
use Rattle.c_typed.specs.Typed.{expr, constant, address, unary, binary, logical_and, logical_or, conditional, compound, inc_dec, call, get, no_exprs, expr_then, place, local, global, at, member, no_expr, some_expr, no_elements, value_then, characters_then, initial_elements, null, value, block, if_else, loop, do_while, break, continue, return_value, switch, no_items, stmt_then, declare_then, no_groups, group_then, word_at, link_at, characters_at, ProgramTree}
use Rattle.c_mean.specs.Run.{exit, cut, heard}
use Rattle.c_typed.proofs.lemmas.ShortForms.{int, char, int_pointer, char_pointer, value_of, object_of, int_value, int_object, number, read_of, variable, computed, compared, converted, assigned, step_by, put, called, set, declare, begin, function, program_with, program}

-- int main(void) { int a = 0, b = 1, t, i; for (i = 0; i < 10; i++) { t = a; a = b; b = t + b; } return a; }
abbrev fibonacci : ProgramTree
fibonacci =
    program 0
    (function int 0 (int_value ∷ int_value ∷ int_value ∷ int_value ∷ [])
    (begin 0 (number 0) (
    begin 1 (number 1) (
    declare 2 (
    declare 3 (
    stmt_then
    (block
    (stmt_then (set 3 (number 0)) (
    stmt_then
    (loop (some_expr (compared relation.Less (variable 3) (number 10))) (some_expr (expr int (inc_dec (step_by true true 1) (place int (local 3)))))
    (block (stmt_then (set 2 (variable 0)) (stmt_then (set 0 (variable 1)) (stmt_then (set 1 (computed op.Add (variable 2) (variable 1))) no_items))))) no_items))) (
    stmt_then (return_value (variable 0)) no_items)))))) ∷ [])

fibonacci-heard : heard 11 fibonacci [] ≡ record { output = []; rest = []; ending = exit 55 }
fibonacci-heard = refl

-- int main(void) { return 2147483647 + 1 < 0; }
abbrev wraps : ProgramTree
wraps = program 0 (function int 0 [] (stmt_then (return_value (compared relation.Less (computed op.Add (number 2147483647) (number 1)) (number 0))) no_items) ∷ [])

wraps-heard : heard 1 wraps [] ≡ record { output = []; rest = []; ending = exit 1 }
wraps-heard = refl

-- int main(void) { int i, j, s = 0; for (i = 0; i < 5; i++) { for (j = 0; j < 5; j++) { if (j == 1) continue; if (j == 3) break; if (i == 3) return s; s = s + 10 * i + j; } } return 99; }
abbrev leaves : ProgramTree
leaves =
    program 0
    (function int 0 (int_value ∷ int_value ∷ int_value ∷ [])
    (declare 0 (
    declare 1 (
    begin 2 (number 0) (
    stmt_then
    (block
    (stmt_then (set 0 (number 0)) (
    stmt_then
    (loop (some_expr (compared relation.Less (variable 0) (number 5))) (some_expr (expr int (inc_dec (step_by true true 1) (place int (local 0)))))
    (block
    (stmt_then
    (block
    (stmt_then (set 1 (number 0)) (
    stmt_then
    (loop (some_expr (compared relation.Less (variable 1) (number 5))) (some_expr (expr int (inc_dec (step_by true true 1) (place int (local 1)))))
    (block
    (stmt_then (if_else (compared relation.Equal (variable 1) (number 1)) continue null) (
    stmt_then (if_else (compared relation.Equal (variable 1) (number 3)) break null) (
    stmt_then (if_else (compared relation.Equal (variable 0) (number 3)) (return_value (variable 2)) null) (
    stmt_then (set 2 (computed op.Add (computed op.Add (variable 2) (computed op.Mul (number 10) (variable 0))) (variable 1))) no_items))))))
    no_items))) no_items))) no_items))) (
    stmt_then (return_value (number 99)) no_items))))) ∷ [])

leaves-heard : heard 6 leaves [] ≡ record { output = []; rest = []; ending = exit 66 }
leaves-heard = refl

-- int main(void) { int i, x = 7, y = 0; for (i = 0; i < 3; i++) { if (y) x = x / y; } return x; }
abbrev guarded : ProgramTree
guarded =
    program 0
    (function int 0 (int_value ∷ int_value ∷ int_value ∷ [])
    (declare 0 (
    begin 1 (number 7) (
    begin 2 (number 0) (
    stmt_then
    (block
    (stmt_then (set 0 (number 0)) (
    stmt_then
    (loop (some_expr (compared relation.Less (variable 0) (number 3))) (some_expr (expr int (inc_dec (step_by true true 1) (place int (local 0)))))
    (block (stmt_then (if_else (variable 2) (set 1 (computed op.Div (variable 1) (variable 2))) null) no_items))) no_items))) (
    stmt_then (return_value (variable 1)) no_items))))) ∷ [])

guarded-heard : heard 4 guarded [] ≡ record { output = []; rest = []; ending = exit 7 }
guarded-heard = refl

-- int main(void) { int a, b; int *p = &a, *q = &b, *z = 0; return (p == q) + 2 * (p + 1 == q) + 4 * (p != 0) + 8 * (z == 0); }
abbrev addresses : ProgramTree
addresses =
    program 0
    (function int 0 (int_object ∷ int_object ∷ value_of int_pointer ∷ value_of int_pointer ∷ value_of int_pointer ∷ [])
    (declare 0 (
    declare 1 (
    begin 2 (expr int_pointer (address (place int (local 0)))) (
    begin 3 (expr int_pointer (address (place int (local 1)))) (
    begin 4 (converted int_pointer (number 0)) (
    stmt_then
    (return_value
    (computed op.Add
    (computed op.Add
    (computed op.Add (compared relation.Equal (read_of int_pointer (local 2)) (read_of int_pointer (local 3)))
    (computed op.Mul (number 2)
    (compared relation.Equal (expr int_pointer (binary (binary_op.PointerPlus 4) (read_of int_pointer (local 2)) (number 1))) (read_of int_pointer (local 3)))))
    (computed op.Mul (number 4) (compared relation.NotEqual (read_of int_pointer (local 2)) (converted int_pointer (number 0)))))
    (computed op.Mul (number 8) (compared relation.Equal (read_of int_pointer (local 4)) (converted int_pointer (number 0)))))) no_items)))))) ∷ [])

addresses-heard : heard 1 addresses [] ≡ record { output = []; rest = []; ending = exit 12 }
addresses-heard = refl

-- int main(void) { return (-7 / 2 == -3) + 2 * (-7 % 2 == -1) + 4 * (-8 >> 1 == -4); }
abbrev truncates : ProgramTree
truncates =
    program 0
    (function int 0 []
    (stmt_then
    (return_value
    (computed op.Add
    (computed op.Add (compared relation.Equal (computed op.Div (expr int (unary unary_op.Negate (number 7))) (number 2)) (expr int (unary unary_op.Negate (number 3))))
    (computed op.Mul (number 2) (compared relation.Equal (computed op.Rem (expr int (unary unary_op.Negate (number 7))) (number 2)) (expr int (unary unary_op.Negate (number 1))))))
    (computed op.Mul (number 4) (compared relation.Equal (computed op.Sra (expr int (unary unary_op.Negate (number 8))) (number 1)) (expr int (unary unary_op.Negate (number 4)))))))
    no_items) ∷ [])

truncates-heard : heard 1 truncates [] ≡ record { output = []; rest = []; ending = exit 7 }
truncates-heard = refl

-- int main(void) { unsigned char c = 250; signed char s = 200; c = c + 10; return c + 10 * (s < 0); }
abbrev narrow : ProgramTree
narrow =
    program 0
    (function int 0 (value_of (scalar_type scalar.UnsignedChar) ∷ value_of (scalar_type scalar.SignedChar) ∷ [])
    (begin 0 (converted (scalar_type scalar.UnsignedChar) (number 250)) (
    begin 1 (converted (scalar_type scalar.SignedChar) (number 200)) (
    stmt_then
    (value
    (assigned (scalar_type scalar.UnsignedChar) (local 0)
    (converted (scalar_type scalar.UnsignedChar) (computed op.Add (converted int (read_of (scalar_type scalar.UnsignedChar) (local 0))) (number 10))))) (
    stmt_then
    (return_value
    (computed op.Add (converted int (read_of (scalar_type scalar.UnsignedChar) (local 0)))
    (computed op.Mul (number 10) (compared relation.Less (converted int (read_of (scalar_type scalar.SignedChar) (local 1))) (number 0))))) no_items)))) ∷ [])

narrow-heard : heard 1 narrow [] ≡ record { output = []; rest = []; ending = exit 14 }
narrow-heard = refl

-- int main(void) { int a[5] = {0}; int b[3] = {1, 2}; return a[4] + b[0] + b[1] + b[2]; }
abbrev zeros : ProgramTree
zeros =
    program 0
    (function int 0 (object_of (array_of int 5) ∷ object_of (array_of int 3) ∷ [])
    (declare_then (record { variable = 0; names_itself = false; initial = initial_elements no_elements }) (
    declare_then (record { variable = 1; names_itself = false; initial = initial_elements (value_then 0 (number 1) (value_then 4 (number 2) no_elements)) }) (
    stmt_then
    (return_value
    (computed op.Add
    (computed op.Add
    (computed op.Add (read_of int (at (expr int_pointer (binary (binary_op.PointerPlus 4) (expr int_pointer (address (place (array_of int 5) (local 0)))) (number 4)))))
    (read_of int (at (expr int_pointer (binary (binary_op.PointerPlus 4) (expr int_pointer (address (place (array_of int 3) (local 1)))) (number 0))))))
    (read_of int (at (expr int_pointer (binary (binary_op.PointerPlus 4) (expr int_pointer (address (place (array_of int 3) (local 1)))) (number 1))))))
    (read_of int (at (expr int_pointer (binary (binary_op.PointerPlus 4) (expr int_pointer (address (place (array_of int 3) (local 1)))) (number 2))))))) no_items))) ∷ [])

zeros-heard : heard 1 zeros [] ≡ record { output = []; rest = []; ending = exit 3 }
zeros-heard = refl

-- struct P { char c; int n; }; struct P a[3]; int main(void) { struct P *p; int s = 0; for (p = a; p != a + 3; p++) { p->n = 5; s = s + p->n; } return s + sizeof(struct P); }
abbrev structs : ProgramTree
structs =
    program_with (record { tag = 0; members = char ∷ int ∷ [] } ∷ []) (record { at = 0; type = array_of (struct_type 0) 3; fixed = false; written = [] } ∷ []) 0
    (function int 0 (value_of (pointer_to (struct_type 0)) ∷ int_value ∷ [])
    (declare 0 (
    begin 1 (number 0) (
    stmt_then
    (block
    (stmt_then (value (assigned (pointer_to (struct_type 0)) (local 0) (expr (pointer_to (struct_type 0)) (address (place (array_of (struct_type 0) 3) (global 0)))))) (
    stmt_then
    (loop
    (some_expr
    (compared relation.NotEqual (read_of (pointer_to (struct_type 0)) (local 0))
    (expr (pointer_to (struct_type 0)) (binary (binary_op.PointerPlus 8) (expr (pointer_to (struct_type 0)) (address (place (array_of (struct_type 0) 3) (global 0)))) (number 3)))))
    (some_expr (expr (pointer_to (struct_type 0)) (inc_dec (step_by true true 8) (place (pointer_to (struct_type 0)) (local 0)))))
    (block
    (stmt_then (value (assigned int (member (place (struct_type 0) (at (read_of (pointer_to (struct_type 0)) (local 0)))) 4) (number 5))) (
    stmt_then (set 1 (computed op.Add (variable 1) (read_of int (member (place (struct_type 0) (at (read_of (pointer_to (struct_type 0)) (local 0)))) 4)))) no_items))))
    no_items))) (
    stmt_then
    (return_value
    (converted int
    (expr (scalar_type scalar.UnsignedInt)
    (binary (binary_op.Arithmetic op.Add) (converted (scalar_type scalar.UnsignedInt) (variable 1)) (expr (scalar_type scalar.UnsignedInt) (constant 8)))))) no_items)))) ∷ [])

structs-heard : heard 4 structs [] ≡ record { output = []; rest = []; ending = exit 23 }
structs-heard = refl

-- int main(void) { int c; while ((c = getchar()) != -1) putchar(c); return 0; }
abbrev copies : ProgramTree
copies =
    program 0
    (function int 0 (int_value ∷ [])
    (declare 0 (
    stmt_then (loop (some_expr (compared relation.NotEqual (assigned int (local 0) (expr int get)) (expr int (unary unary_op.Negate (number 1))))) no_expr (value (put (variable 0)))) (
    stmt_then (return_value (number 0)) no_items))) ∷ [])

copies-heard : heard 4 copies (0 ∷ 10 ∷ 255 ∷ []) ≡ record { output = 0 ∷ 10 ∷ 255 ∷ []; rest = []; ending = exit 0 }
copies-heard = refl

-- int odd(int n); int even(int n) { if (n == 0) return 1; return odd(n - 1); } int odd(int n) { if (n == 0) return 0; return even(n - 1); } int main(void) { return even(10); }
abbrev recursion : ProgramTree
recursion =
    program 2
    (function int 1 (int_value ∷ [])
    (stmt_then (if_else (compared relation.Equal (variable 0) (number 0)) (return_value (number 0)) null) (
    stmt_then (return_value (called 1 (expr_then (computed op.Sub (variable 0) (number 1)) no_exprs))) no_items)) ∷
    function int 1 (int_value ∷ [])
    (stmt_then (if_else (compared relation.Equal (variable 0) (number 0)) (return_value (number 1)) null) (
    stmt_then (return_value (called 0 (expr_then (computed op.Sub (variable 0) (number 1)) no_exprs))) no_items)) ∷
    function int 0 [] (stmt_then (return_value (called 1 (expr_then (number 10) no_exprs))) no_items) ∷ [])

recursion-heard : heard 11 recursion [] ≡ record { output = []; rest = []; ending = exit 1 }
recursion-heard = refl

-- int f(int n) { putchar(65); return f(n + 1); } int main(void) { return f(0); }
abbrev deep_calls : ProgramTree
deep_calls =
    program 1
    (function int 1 (int_value ∷ [])
    (stmt_then (value (put (number 65))) (
    stmt_then (return_value (called 0 (expr_then (computed op.Add (variable 0) (number 1)) no_exprs))) no_items)) ∷
    function int 0 [] (stmt_then (return_value (called 0 (expr_then (number 0) no_exprs))) no_items) ∷ [])

deep_calls-heard : heard 3 deep_calls [] ≡ record { output = 65 ∷ 65 ∷ 65 ∷ []; rest = []; ending = cut }
deep_calls-heard = refl

-- int main(void) { while (1) putchar(66); }
abbrev bytes_of_loop : ProgramTree
bytes_of_loop = program 0 (function int 0 [] (stmt_then (loop (some_expr (number 1)) no_expr (value (put (number 66)))) no_items) ∷ [])

bytes_of_loop-heard : heard 3 bytes_of_loop [] ≡ record { output = 66 ∷ 66 ∷ 66 ∷ []; rest = []; ending = cut }
bytes_of_loop-heard = refl

-- int f(int x) { } int main(void) { f(0); return 3; }
abbrev result_dropped : ProgramTree
result_dropped =
    program 1 (function int 1 (int_value ∷ []) no_items ∷ function int 0 [] (stmt_then (value (called 0 (expr_then (number 0) no_exprs))) (stmt_then (return_value (number 3)) no_items)) ∷ [])

result_dropped-heard : heard 5 result_dropped [] ≡ record { output = []; rest = []; ending = exit 3 }
result_dropped-heard = refl

-- int f(int x) { } int main(void) { 1 ? f(0) : 2; return 3; }
abbrev result_handed_on : ProgramTree
result_handed_on =
    program 1
    (function int 1 (int_value ∷ []) no_items ∷
    function int 0 [] (stmt_then (value (expr int (conditional (number 1) (called 0 (expr_then (number 0) no_exprs)) (number 2)))) (stmt_then (return_value (number 3)) no_items)) ∷ [])

result_handed_on-heard : heard 5 result_handed_on [] ≡ record { output = []; rest = []; ending = exit 3 }
result_handed_on-heard = refl

-- int *f(void) { int x; return &x; } int main(void) { int *p = f(); return p != 0; }
abbrev dead_is_not_null : ProgramTree
dead_is_not_null =
    program 1
    (function int_pointer 0 (int_object ∷ []) (declare 0 (stmt_then (return_value (expr int_pointer (address (place int (local 0))))) no_items)) ∷
    function int 0 (value_of int_pointer ∷ [])
    (begin 0 (expr int_pointer (call 0 no_exprs)) (stmt_then (return_value (compared relation.NotEqual (read_of int_pointer (local 0)) (converted int_pointer (number 0)))) no_items)) ∷ [])

dead_is_not_null-heard : heard 5 dead_is_not_null [] ≡ record { output = []; rest = []; ending = exit 1 }
dead_is_not_null-heard = refl

-- int main(void) { int *p = 0; return p == p; }
abbrev null_is_null : ProgramTree
null_is_null =
    program 0
    (function int 0 (value_of int_pointer ∷ [])
    (begin 0 (converted int_pointer (number 0)) (stmt_then (return_value (compared relation.Equal (read_of int_pointer (local 0)) (read_of int_pointer (local 0)))) no_items)) ∷ [])

null_is_null-heard : heard 5 null_is_null [] ≡ record { output = []; rest = []; ending = exit 1 }
null_is_null-heard = refl

-- int main(void) { int a[2] = {1}; return a + 2 - a; }
abbrev difference : ProgramTree
difference =
    program 0
    (function int 0 (object_of (array_of int 2) ∷ [])
    (declare_then (record { variable = 0; names_itself = false; initial = initial_elements (value_then 0 (number 1) no_elements) }) (
    stmt_then
    (return_value
    (expr int
    (binary (binary_op.PointerDifference 4) (expr int_pointer (binary (binary_op.PointerPlus 4) (expr int_pointer (address (place (array_of int 2) (local 0)))) (number 2)))
    (expr int_pointer (address (place (array_of int 2) (local 0))))))) no_items)) ∷ [])

difference-heard : heard 5 difference [] ≡ record { output = []; rest = []; ending = exit 2 }
difference-heard = refl

-- int main(void) { int i = 1; return i + (i = 5); }
abbrev reads_first : ProgramTree
reads_first = program 0 (function int 0 (int_value ∷ []) (begin 0 (number 1) (stmt_then (return_value (computed op.Add (variable 0) (assigned int (local 0) (number 5)))) no_items)) ∷ [])

reads_first-heard : heard 5 reads_first [] ≡ record { output = []; rest = []; ending = exit 6 }
reads_first-heard = refl

-- int main(void) { int i; for (i = 0; i < 2; i++) { int j; &j; if (i == 0) j = 7; else return j; } return 0; }
abbrev keeps_its_value : ProgramTree
keeps_its_value =
    program 0
    (function int 0 (int_value ∷ int_object ∷ [])
    (declare 0 (
    stmt_then
    (block
    (stmt_then (set 0 (number 0)) (
    stmt_then
    (loop (some_expr (compared relation.Less (variable 0) (number 2))) (some_expr (expr int (inc_dec (step_by true true 1) (place int (local 0)))))
    (block
    (declare 1 (
    stmt_then (value (expr int_pointer (address (place int (local 1))))) (
    stmt_then (if_else (compared relation.Equal (variable 0) (number 0)) (set 1 (number 7)) (return_value (variable 1))) no_items))))) no_items))) (
    stmt_then (return_value (number 0)) no_items))) ∷ [])

keeps_its_value-heard : heard 5 keeps_its_value [] ≡ record { output = []; rest = []; ending = exit 7 }
keeps_its_value-heard = refl

-- int f(int n) { int s = 0; switch (n) { case 1: s = s + 1; case 2: putchar(65); break; case 3: return 30; default: s = 9; } return s; } int main(void) { return f(1) + 10 * f(2) + f(3) + 2 *
-- f(7); }
abbrev falls_through : ProgramTree
falls_through =
    program 1
    (function int 1 (int_value ∷ int_value ∷ [])
    (begin 1 (number 0) (
    stmt_then
    (switch (variable 0)
    (group_then (1 ∷ []) false (stmt_then (set 1 (computed op.Add (variable 1) (number 1))) no_items)
    (group_then (2 ∷ []) false (stmt_then (value (put (number 65))) (stmt_then break no_items))
    (group_then (3 ∷ []) false (stmt_then (return_value (number 30)) no_items) (group_then [] true (stmt_then (set 1 (number 9)) no_items) no_groups))))) (
    stmt_then (return_value (variable 1)) no_items))) ∷
    function int 0 []
    (stmt_then
    (return_value
    (computed op.Add
    (computed op.Add (computed op.Add (called 0 (expr_then (number 1) no_exprs)) (computed op.Mul (number 10) (called 0 (expr_then (number 2) no_exprs))))
    (called 0 (expr_then (number 3) no_exprs))) (computed op.Mul (number 2) (called 0 (expr_then (number 7) no_exprs))))) no_items) ∷ [])

falls_through-heard : heard 5 falls_through [] ≡ record { output = 65 ∷ 65 ∷ []; rest = []; ending = exit 49 }
falls_through-heard = refl

-- int x = 300; int *p = &x; char s[] = "ab"; int main(void) { *p = *p + s[1]; return x - 300; }
abbrev globals : ProgramTree
globals =
    program_with []
    (record { at = 0; type = int; fixed = false; written = word_at 0 4 300 ∷ [] } ∷
    record { at = 0; type = int_pointer; fixed = false; written = link_at 0 0 ∷ [] } ∷
    record { at = 0; type = array_of char 3; fixed = false; written = characters_at 0 (97 ∷ 98 ∷ []) ∷ [] } ∷ []) 0
    (function int 0 []
    (stmt_then
    (value
    (assigned int (at (read_of int_pointer (global 1)))
    (computed op.Add (read_of int (at (read_of int_pointer (global 1))))
    (converted int (read_of char (at (expr char_pointer (binary (binary_op.PointerPlus 1) (expr char_pointer (address (place (array_of char 3) (global 2)))) (number 1))))))))) (
    stmt_then (return_value (computed op.Sub (read_of int (global 0)) (number 300))) no_items)) ∷ [])

globals-heard : heard 5 globals [] ≡ record { output = []; rest = []; ending = exit 98 }
globals-heard = refl

-- int main(void) { do putchar(65); while (1); }
abbrev cut_before_body : ProgramTree
cut_before_body = program 0 (function int 0 [] (stmt_then (do_while (value (put (number 65))) (number 1)) no_items) ∷ [])

cut_before_body-heard : heard 2 cut_before_body [] ≡ record { output = 65 ∷ 65 ∷ []; rest = []; ending = cut }
cut_before_body-heard = refl

-- int main(void) { int i = 0; while (i < 2) i++; return i; }
abbrev condition_then_cut : ProgramTree
condition_then_cut =
    program 0
    (function int 0 (int_value ∷ [])
    (begin 0 (number 0) (
    stmt_then (loop (some_expr (compared relation.Less (variable 0) (number 2))) no_expr (value (expr int (inc_dec (step_by true true 1) (place int (local 0)))))) (
    stmt_then (return_value (variable 0)) no_items))) ∷ [])

condition_then_cut-heard : heard 2 condition_then_cut [] ≡ record { output = []; rest = []; ending = exit 2 }
condition_then_cut-heard = refl

-- int main(void) { getchar(); getchar(); exit(300); return 0; }
abbrev rest_is_kept : ProgramTree
rest_is_kept =
    program 0
    (function int 0 []
    (stmt_then (value (expr int get)) (
    stmt_then (value (expr int get)) (stmt_then (value (expr void_type (unary unary_op.Exit (number 300)))) (stmt_then (return_value (number 0)) no_items)))) ∷ [])

rest_is_kept-heard : heard 2 rest_is_kept (7 ∷ 8 ∷ 9 ∷ []) ≡ record { output = []; rest = 9 ∷ []; ending = exit 44 }
rest_is_kept-heard = refl

-- int main(void) { int i = 1; i += (i = 5); return i; }
abbrev compound_reads_first : ProgramTree
compound_reads_first =
    program 0
    (function int 0 (int_value ∷ [])
    (begin 0 (number 1) (
    stmt_then (value (expr int (compound (compound_op.Arithmetic op.Add false) (place int (local 0)) (assigned int (local 0) (number 5))))) (stmt_then (return_value (variable 0)) no_items))) ∷
    [])

compound_reads_first-heard : heard 2 compound_reads_first [] ≡ record { output = []; rest = []; ending = exit 6 }
compound_reads_first-heard = refl

-- int main(void) { return 0 && putchar(65) || 1; }
abbrev and_skips : ProgramTree
and_skips = program 0 (function int 0 [] (stmt_then (return_value (expr int (logical_or (expr int (logical_and (number 0) (put (number 65)))) (number 1)))) no_items) ∷ [])

and_skips-heard : heard 2 and_skips [] ≡ record { output = []; rest = []; ending = exit 1 }
and_skips-heard = refl

-- int f(int a) { int *p = &a; *p = *p + 1; return a; } int main(void) { return f(4); }
abbrev object_parameter : ProgramTree
object_parameter =
    program 1
    (function int 1 (int_object ∷ value_of int_pointer ∷ [])
    (begin 1 (expr int_pointer (address (place int (local 0)))) (
    stmt_then (value (assigned int (at (read_of int_pointer (local 1))) (computed op.Add (read_of int (at (read_of int_pointer (local 1)))) (number 1)))) (
    stmt_then (return_value (variable 0)) no_items))) ∷
    function int 0 [] (stmt_then (return_value (called 0 (expr_then (number 4) no_exprs))) no_items) ∷ [])

object_parameter-heard : heard 2 object_parameter [] ≡ record { output = []; rest = []; ending = exit 5 }
object_parameter-heard = refl

-- int main(void) { char s[3] = "ab"; char *p = s; return !p || s[1]; }
abbrev string_array : ProgramTree
string_array =
    program 0
    (function int 0 (object_of (array_of char 3) ∷ value_of char_pointer ∷ [])
    (declare_then (record { variable = 0; names_itself = false; initial = initial_elements (characters_then 0 (97 ∷ 98 ∷ []) no_elements) }) (
    begin 1 (expr char_pointer (address (place (array_of char 3) (local 0)))) (
    stmt_then
    (return_value
    (expr int
    (logical_or (expr int (unary unary_op.LogicalNot (read_of char_pointer (local 1))))
    (read_of char (at (expr char_pointer (binary (binary_op.PointerPlus 1) (expr char_pointer (address (place (array_of char 3) (local 0)))) (number 1)))))))) no_items))) ∷ [])

string_array-heard : heard 2 string_array [] ≡ record { output = []; rest = []; ending = exit 1 }
string_array-heard = refl

-- int f(void) { int i = 0; while (i < 2) i++; return i; } int main(void) { return f(); }
abbrev calls_keep_the_bound : ProgramTree
calls_keep_the_bound =
    program 1
    (function int 0 (int_value ∷ [])
    (begin 0 (number 0) (
    stmt_then (loop (some_expr (compared relation.Less (variable 0) (number 2))) no_expr (value (expr int (inc_dec (step_by true true 1) (place int (local 0)))))) (
    stmt_then (return_value (variable 0)) no_items))) ∷
    function int 0 [] (stmt_then (return_value (called 0 no_exprs)) no_items) ∷ [])

calls_keep_the_bound-heard : heard 2 calls_keep_the_bound [] ≡ record { output = []; rest = []; ending = exit 2 }
calls_keep_the_bound-heard = refl

-- int main(void) { int i, s = 0; for (i = 0; i < 6; i++) { switch (i) { case 1: s = s + 1; case 2: s = s + 10; break; case 4: continue; default: s = s + 100; } s = s + 1000; } return s % 251; }
abbrev switches_in_a_loop : ProgramTree
switches_in_a_loop =
    program 0
    (function int 0 (int_value ∷ int_value ∷ [])
    (declare 0 (
    begin 1 (number 0) (
    stmt_then (set 0 (number 0)) (
    stmt_then
    (loop (some_expr (compared relation.Less (variable 0) (number 6))) (some_expr (expr int (inc_dec (step_by true true 1) (place int (local 0)))))
    (block
    (stmt_then
    (switch (variable 0)
    (group_then (1 ∷ []) false (stmt_then (set 1 (computed op.Add (variable 1) (number 1))) no_items)
    (group_then (2 ∷ []) false (stmt_then (set 1 (computed op.Add (variable 1) (number 10))) (stmt_then break no_items))
    (group_then (4 ∷ []) false (stmt_then continue no_items)
    (group_then [] true (stmt_then (set 1 (computed op.Add (variable 1) (number 100))) no_items) no_groups))))) (
    stmt_then (set 1 (computed op.Add (variable 1) (number 1000))) no_items)))) (
    stmt_then (return_value (computed op.Rem (variable 1) (number 251))) no_items))))) ∷ [])

switches_in_a_loop-heard : heard 6 switches_in_a_loop [] ≡ record { output = []; rest = []; ending = exit 50 }
switches_in_a_loop-heard = refl
