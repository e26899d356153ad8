-- Worked rows of the language: each program, its run and the run of its graph give the same.
use Rattle.std.specs.Prelude.{◌≡◌, ℕ, true, false, refl, List, [], ◌∷◌}
use Rattle.val_core.specs.declared.operation.Op2.TheVariants as op
use Rattle.val_core.specs.Events.{Event, met}
use Rattle.val_core.specs.Answers.{Exited}
use Rattle.c_type.specs.declared.scalar.Scalar.TheVariants as scalar
use Rattle.c_type.specs.Trees.{TypeTree, scalar_type, pointer_to, array_of}
use Rattle.c_typed.specs.declared.operator.Relation.TheVariants as relation
use Rattle.c_typed.specs.declared.operator.UnaryOp.TheVariants as unary_op
use Rattle.c_typed.specs.declared.operator.BinaryOp.TheVariants as binary_op
use Rattle.c_typed.specs.Typed.{ExprTree, expr, read, address, unary, binary, assign, place, local, at, some_expr, initial_elements, ElementTrees, no_elements, value_then, StmtTree, null, value, block, if_else, loop, break, continue, return_value, switch, ItemTrees, no_items, stmt_then, declare_then, no_groups, group_then, VariableTree, ProgramTree}
use Rattle.c_mean.specs.Run.{run}
use Rattle.c_typed.proofs.lemmas.ShortForms.{int, number, variable, computed, compared, assigned, declare, begin, program, int_value, int_object}
use Rattle.g_build_keeps.proofs.Examples.{more, main, graph_run}

abbrev started : List Event
started = met (0 ∷ []) ∷ []

-- the program ends with this status within these bounds, and so does its graph
abbrev Ends : ProgramTree → (bound graph_bound status : ℕ) → Type 0
Ends p n m s = (run n p [] ≡ Exited started s) × (graph_run m p [] ≡ Exited started s)

-- a statement that counts a variable from 0 to below a limit
abbrev counted : (slot limit : ℕ) → ItemTrees → StmtTree
counted k n is =
    block
    (stmt_then (value (assigned int (local k) (number 0))) (stmt_then (loop (some_expr (compared relation.Less (variable k) (number n))) (some_expr (more (local k))) (block is)) no_items))

abbrev returned : ExprTree → ItemTrees
returned e = stmt_then (return_value e) no_items

-- ---- arithmetic

-- int main(void) { return 2147483647 + 1 < 0; }
abbrev wraps : ProgramTree
wraps = program 0 (main [] (returned (compared relation.Less (computed op.Add (number 2147483647) (number 1)) (number 0))) ∷ [])

wraps-both : Ends wraps 1 1 1
wraps-both = (refl, refl)

abbrev negative : ℕ → ExprTree
negative n = expr int (unary unary_op.Negate (number n))

-- int main(void) { return (-7 / 2 == -3) + 2 * (-7 % 2 == -1) + 4 * (-8 >> 1 == -4); }
abbrev truncates : ProgramTree
truncates =
    program 0
    (main []
    (returned
    (computed op.Add
    (computed op.Add (compared relation.Equal (computed op.Div (negative 7) (number 2)) (negative 3))
    (computed op.Mul (number 2) (compared relation.Equal (computed op.Rem (negative 7) (number 2)) (negative 1))))
    (computed op.Mul (number 4) (compared relation.Equal (computed op.Sra (negative 8) (number 1)) (negative 4))))) ∷ [])

truncates-both : Ends truncates 1 1 7
truncates-both = (refl, refl)

abbrev narrow : TypeTree
narrow = scalar_type scalar.UnsignedChar

abbrev signed_narrow : TypeTree
signed_narrow = scalar_type scalar.SignedChar

abbrev converted : TypeTree → ExprTree → ExprTree
converted t e = expr t (unary unary_op.Convert e)

abbrev read_as : TypeTree → (slot : ℕ) → ExprTree
read_as t k = converted int (expr t (read (place t (local k))))

-- int main(void) { unsigned char c = 250; signed char s = 200; c = c + 10; return c + 10 * (s < 0); }
abbrev widths : ProgramTree
widths =
    program 0
    (main (record { type = narrow; is_object = false } ∷ record { type = signed_narrow; is_object = false } ∷ [])
    (begin 0 (converted narrow (number 250)) (
    begin 1 (converted signed_narrow (number 200)) (
    stmt_then (value (expr narrow (assign (place narrow (local 0)) (converted narrow (computed op.Add (read_as narrow 0) (number 10)))))) (
    returned (computed op.Add (read_as narrow 0) (computed op.Mul (number 10) (compared relation.Less (read_as signed_narrow 1) (number 0)))))))) ∷ [])

widths-both : Ends widths 1 1 14
widths-both = (refl, refl)

-- int main(void) { return (2 > 1) + 2 * (1 > 2); }
abbrev orders : ProgramTree
orders =
    program 0
    (main [] (returned (computed op.Add (compared relation.Greater (number 2) (number 1)) (computed op.Mul (number 2) (compared relation.Greater (number 1) (number 2))))) ∷ [])

orders-both : Ends orders 1 1 1
orders-both = (refl, refl)

-- ---- loops and jumps

-- int main(void) { int a = 0, b = 1, t, i; for (i = 0; i < 10; i++) { t = a; a = b; b = t + b; } return a; }
abbrev sums : ProgramTree
sums =
    program 0
    (main (int_value ∷ int_value ∷ int_value ∷ int_value ∷ [])
    (begin 0 (number 0) (
    begin 1 (number 1) (
    declare 2 (
    declare 3 (
    stmt_then
    (counted 3 10
    (stmt_then (value (assigned int (local 2) (variable 0))) (
    stmt_then (value (assigned int (local 0) (variable 1))) (stmt_then (value (assigned int (local 1) (computed op.Add (variable 2) (variable 1)))) no_items)))) (
    returned (variable 0))))))) ∷ [])

sums-both : Ends sums 10 11 55
sums-both = (refl, refl)

-- int main(void) { int i, j, s = 0; for (i = 0; i < 5; i++) { for (j = 0; j < 5; j++) { if (j == 1) continue; if (j == 3) break;
-- if (i == 3) return s; s = s + 10 * i + j; } } return 99; }
abbrev leaves : ProgramTree
leaves =
    program 0
    (main (int_value ∷ int_value ∷ int_value ∷ [])
    (declare 0 (
    declare 1 (
    begin 2 (number 0) (
    stmt_then
    (counted 0 5
    (stmt_then
    (counted 1 5
    (stmt_then (if_else (compared relation.Equal (variable 1) (number 1)) continue null) (
    stmt_then (if_else (compared relation.Equal (variable 1) (number 3)) break null) (
    stmt_then (if_else (compared relation.Equal (variable 0) (number 3)) (return_value (variable 2)) null) (
    stmt_then (value (assigned int (local 2) (computed op.Add (computed op.Add (variable 2) (computed op.Mul (number 10) (variable 0))) (variable 1)))) no_items))))) no_items)) (
    returned (number 99)))))) ∷ [])

leaves-both : Ends leaves 4 5 66
leaves-both = (refl, refl)

-- int main(void) { int i, s = 0; for (i = 0; i < 6; i++) { switch (i) { case 1: s = s + 1; case 2: s = s + 10; break; case 4: continue;
-- default: s = s + 100; } s = s + 1000; } return s % 251; }
abbrev segments : ProgramTree
segments =
    program 0
    (main (int_value ∷ int_value ∷ [])
    (declare 0 (
    begin 1 (number 0) (
    stmt_then
    (counted 0 6
    (stmt_then
    (switch (variable 0)
    (group_then (1 ∷ []) false (stmt_then (value (assigned int (local 1) (computed op.Add (variable 1) (number 1)))) no_items) (
    group_then (2 ∷ []) false (stmt_then (value (assigned int (local 1) (computed op.Add (variable 1) (number 10)))) (stmt_then break no_items)) (
    group_then (4 ∷ []) false (stmt_then continue no_items) (
    group_then [] true (stmt_then (value (assigned int (local 1) (computed op.Add (variable 1) (number 100)))) no_items) no_groups))))) (
    stmt_then (value (assigned int (local 1) (computed op.Add (variable 1) (number 1000)))) no_items))) (
    returned (computed op.Rem (variable 1) (number 251)))))) ∷ [])

segments-both : Ends segments 6 7 50
segments-both = (refl, refl)

-- ---- pointers and arrays

abbrev pointer : TypeTree
pointer = pointer_to int

abbrev pointed : (slot : ℕ) → ExprTree
pointed k = expr pointer (read (place pointer (local k)))

abbrev of_object : (slot : ℕ) → ExprTree
of_object k = expr pointer (address (place int (local k)))

abbrev null_pointer : ExprTree
null_pointer = converted pointer (number 0)

abbrev a_pointer : VariableTree
a_pointer = record { type = pointer; is_object = false }

-- int main(void) { int a, b; int *p = &a, *q = &b, *z = 0; return (p == q) + 2 * (p + 1 == q) + 4 * (p != 0) + 8 * (z == 0); }
abbrev compares : ProgramTree
compares =
    program 0
    (main (int_object ∷ int_object ∷ a_pointer ∷ a_pointer ∷ a_pointer ∷ [])
    (declare 0 (
    declare 1 (
    begin 2 (of_object 0) (
    begin 3 (of_object 1) (
    begin 4 null_pointer (
    returned
    (computed op.Add
    (computed op.Add
    (computed op.Add (compared relation.Equal (pointed 2) (pointed 3))
    (computed op.Mul (number 2) (compared relation.Equal (expr pointer (binary (binary_op.PointerPlus 4) (pointed 2) (number 1))) (pointed 3))))
    (computed op.Mul (number 4) (compared relation.NotEqual (pointed 2) null_pointer))) (computed op.Mul (number 8) (compared relation.Equal (pointed 4) null_pointer))))))))) ∷ [])

compares-both : Ends compares 1 1 12
compares-both = (refl, refl)

-- int main(void) { int a, b; &a; &b; a = b = 2; return a + 3 * b; } without the two statements that make objects of a and b
abbrev stores : ProgramTree
stores =
    program 0
    (main (int_object ∷ int_object ∷ [])
    (declare 0 (
    declare 1 (
    stmt_then (value (assigned int (local 0) (assigned int (local 1) (number 2)))) (returned (computed op.Add (variable 0) (computed op.Mul (number 3) (variable 1))))))) ∷ [])

stores-both : Ends stores 1 1 8
stores-both = (refl, refl)

abbrev ints : (count : ℕ) → TypeTree
ints n = array_of int n

-- the element of an array at this slot
abbrev element : (slot count index : ℕ) → ExprTree
element k n i = expr int (read (place int (at (expr pointer (binary (binary_op.PointerPlus 4) (expr pointer (address (place (ints n) (local k)))) (number i))))))

abbrev begin_array : (variable : ℕ) → ElementTrees → ItemTrees → ItemTrees
begin_array k es is = declare_then (record { variable = k; names_itself = false; initial = initial_elements es }) is

-- int main(void) { int a[1000] = {0}; int b[3] = {1, 2}; return a[999] + b[0] + b[1] + b[2]; }
abbrev arrays : ProgramTree
arrays =
    program 0
    (main (record { type = ints 1000; is_object = true } ∷ record { type = ints 3; is_object = true } ∷ [])
    (begin_array 0 (value_then 0 (number 0) no_elements) (
    begin_array 1 (value_then 0 (number 1) (value_then 4 (number 2) no_elements)) (
    returned (computed op.Add (computed op.Add (computed op.Add (element 0 1000 999) (element 1 3 0)) (element 1 3 1)) (element 1 3 2))))) ∷ [])

arrays-both : Ends arrays 1 1 3
arrays-both = (refl, refl)
