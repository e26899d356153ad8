-- Worked rows: programs, their runs, and the runs of their graphs.
use Rattle.std.specs.Prelude.{◌≡◌, ℕ, true, false, refl, List, [], ◌∷◌}
use Rattle.val_core.specs.declared.operation.Op2.TheVariants as op
use Rattle.val_core.specs.Events.{Event, wrote, took, met}
use Rattle.val_core.specs.Answers.{Answer, Cut, Exited, Undefined}
use Rattle.c_type.specs.Trees.{pointer_to, void_type}
use Rattle.c_typed.specs.declared.operator.Relation.TheVariants as relation
use Rattle.c_typed.specs.declared.operator.UnaryOp.TheVariants as unary_op
use Rattle.c_typed.specs.Typed.{ExprTree, expr, read, address, unary, logical_and, logical_or, conditional, inc_dec, call, get, no_exprs, expr_then, place, PlaceFormTree, local, at, no_expr, some_expr, StmtTree, null, value, block, if_else, loop, do_while, break, continue, return_value, switch, ItemTrees, no_items, stmt_then, no_groups, group_then, VariableTree, FunctionTree, ProgramTree}
use Rattle.c_mean.specs.Run.{run}
use Rattle.g_build_def.specs.Functions.{graph, omega}
use Rattle.g_mean.specs.Data.{Datum}
use Rattle.g_mean.specs.Calls.{program_at}
use Rattle.c_typed.proofs.lemmas.ShortForms.{int, number, variable, computed, compared, assigned, step_by, put, declare, begin, function, program, int_value, int_object}

abbrev pub writes : ExprTree → StmtTree
writes e = value (put e)

abbrev pub more : PlaceFormTree → ExprTree
more p = expr int (inc_dec (step_by true true 1) (place int p))

abbrev pub main : List VariableTree → ItemTrees → FunctionTree
main vs is = record (function int 0 vs is) { name = 109 ∷ 97 ∷ 105 ∷ 110 ∷ [] }

-- the run of the graph of a program
abbrev pub graph_run : ℕ → ProgramTree → List ℕ → Answer (List Datum)
graph_run n p i = program_at n (omega p) (graph p) i

-- ---- loops over value variables

-- int main(void) { int a = 0, b = 1, t, i; for (i = 0; i < 6; i++) { t = a; a = b; b = t + b; } return a; }
abbrev fibonacci : ProgramTree
fibonacci =
    program 0
    (main (int_value ∷ int_value ∷ int_value ∷ int_value ∷ [])
    (begin 0 (number 0) (
    begin 1 (number 1) (
    declare 2 (
    declare 3 (
    stmt_then (value (assigned int (local 3) (number 0))) (
    stmt_then
    (loop (some_expr (compared relation.Less (variable 3) (number 6))) (some_expr (more (local 3)))
    (block
    (stmt_then (value (assigned int (local 2) (variable 0))) (
    stmt_then (value (assigned int (local 0) (variable 1))) (stmt_then (value (assigned int (local 1) (computed op.Add (variable 2) (variable 1)))) no_items))))) (
    stmt_then (return_value (variable 0)) no_items))))))) ∷ [])

fibonacci-source : run 6 fibonacci [] ≡ Exited (met (0 ∷ []) ∷ []) 8
fibonacci-source = refl

-- the last look at the condition is a turn of the graph
fibonacci-graph : graph_run 7 fibonacci [] ≡ Exited (met (0 ∷ []) ∷ []) 8
fibonacci-graph = refl

fibonacci-cut : (run 5 fibonacci [] ≡ Cut (met (0 ∷ []) ∷ [])) × (graph_run 6 fibonacci [] ≡ Cut (met (0 ∷ []) ∷ []))
fibonacci-cut = (refl, refl)

-- ---- objects, calls, jumps and output

-- int f(int *p, int n) { while (1) { if (n < 1 || *p == 70) break; putchar(*p); ++*p; n--; } return n; } with n-- as n = n - 1
-- int main(void) { int c = 65; int r = f(&c, 3); return c && r ? r : c + f(&c, 9); }
abbrev pointer : ExprTree
pointer = expr (pointer_to int) (read (place (pointer_to int) (local 0)))

abbrev pointed : PlaceFormTree
pointed = at pointer

abbrev letters : ProgramTree
letters =
    program 1
    (function int 2 (record { type = pointer_to int; is_object = false } ∷ int_value ∷ [])
    (stmt_then
    (loop no_expr no_expr
    (block
    (stmt_then
    (if_else
    (expr int (logical_or (compared relation.Less (variable 1) (number 1)) (compared relation.Equal (expr int (read (place int pointed))) (number 70)))) break null) (
    stmt_then (writes (expr int (read (place int pointed)))) (
    stmt_then (value (more pointed)) (
    stmt_then (value (assigned int (local 1) (computed op.Sub (variable 1) (number 1)))) no_items)))))) (
    stmt_then (return_value (variable 1)) no_items))
    ∷ main (int_object ∷ int_value ∷ [])
    (begin 0 (number 65) (
    begin 1 (expr int (call 0 (expr_then (expr (pointer_to int) (address (place int (local 0)))) (expr_then (number 3) no_exprs)))) (
    stmt_then
    (return_value
    (expr int
    (conditional (expr int (logical_and (variable 0) (variable 1))) (variable 1)
    (computed op.Add (variable 0)
    (expr int (call 0 (expr_then (expr (pointer_to int) (address (place int (local 0)))) (expr_then (number 9) no_exprs)))))))) no_items))) ∷ [])

abbrev letters-did : List Event
letters-did =
    met (1 ∷ []) ∷ met (1 ∷ 0 ∷ []) ∷ wrote 65 ∷ wrote 66 ∷ wrote 67 ∷ met (1 ∷ 0 ∷ []) ∷ wrote 68 ∷ wrote 69 ∷ []

letters-source : run 4 letters [] ≡ Exited letters-did 75
letters-source = refl

letters-graph : graph_run 6 letters [] ≡ Exited letters-did 75
letters-graph = refl

-- ---- switch, exit and input

-- int main(void) { int i, s = 0; for (i = 0; i < 5; i++) { switch (i) { case 1: s = s + 1; case 2: s = s + 10; break; case 3: continue; default: s = s + 100; } s = s + 50; } return s % 251; }
abbrev switches : ProgramTree
switches =
    program 0
    (main (int_value ∷ int_value ∷ [])
    (declare 0 (
    begin 1 (number 0) (
    stmt_then (value (assigned int (local 0) (number 0))) (
    stmt_then
    (loop (some_expr (compared relation.Less (variable 0) (number 5))) (some_expr (more (local 0)))
    (block
    (stmt_then
    (switch (variable 0)
    (group_then (1 ∷ []) false (stmt_then (value (assigned int (local 1) (computed op.Add (variable 1) (number 1)))) no_items) (
    group_then (2 ∷ []) false (stmt_then (value (assigned int (local 1) (computed op.Add (variable 1) (number 10)))) (stmt_then break no_items)) (
    group_then (3 ∷ []) false (stmt_then continue no_items) (
    group_then [] true (stmt_then (value (assigned int (local 1) (computed op.Add (variable 1) (number 100)))) no_items) no_groups))))) (
    stmt_then (value (assigned int (local 1) (computed op.Add (variable 1) (number 50)))) no_items)))) (
    stmt_then (return_value (computed op.Rem (variable 1) (number 251))) no_items))))) ∷ [])

switches-source : run 5 switches [] ≡ Exited (met (0 ∷ []) ∷ []) 170
switches-source = refl

switches-graph : graph_run 6 switches [] ≡ Exited (met (0 ∷ []) ∷ []) 170
switches-graph = refl

-- int main(void) { do { int c = getchar(); putchar(c); if (c == 66) exit(7); } while (1); } with getchar() as the input's byte
abbrev stops : ProgramTree
stops =
    program 0
    (main (int_value ∷ [])
    (stmt_then
    (do_while
    (block
    (begin 0 (expr int get) (
    stmt_then (writes (variable 0)) (stmt_then (if_else (compared relation.Equal (variable 0) (number 66)) (value (expr void_type (unary unary_op.Exit (number 7)))) null) no_items))))
    (number 1)) no_items) ∷ [])

stops-both :
    (run 2 stops (65 ∷ 66 ∷ 67 ∷ []) ≡ Exited (met (0 ∷ []) ∷ took 65 ∷ wrote 65 ∷ took 66 ∷ wrote 66 ∷ []) 7)
    × (graph_run 2 stops (65 ∷ 66 ∷ 67 ∷ []) ≡ Exited (met (0 ∷ []) ∷ took 65 ∷ wrote 65 ∷ took 66 ∷ wrote 66 ∷ []) 7)
stops-both = (refl, refl)

-- ---- undefined after output: the graph may go on

-- int main(void) { putchar(65); return 1 / 0; }
abbrev divides : ProgramTree
divides = program 0 (main [] (stmt_then (writes (number 65)) (stmt_then (return_value (computed op.Div (number 1) (number 0))) no_items)) ∷ [])

divides-both : (run 1 divides [] ≡ Undefined (met (0 ∷ []) ∷ wrote 65 ∷ [])) × (graph_run 1 divides [] ≡ Exited (met (0 ∷ []) ∷ wrote 65 ∷ []) 255)
divides-both = (refl, refl)
