-- Worked rows of loops and of `switch`.
use Rattle.std.proofs.Common.{◌≡◌, ℕ, ◌-◌, ◌^◌, true, false, [], ◌∷◌, refl}
use Rattle.val_core.specs.declared.operation.Op2.TheVariants.{Add, Mul, Ne, Eq, Slt, Sltu}
use Rattle.val_core.specs.declared.operation.Op1.TheVariants.{Zext8}
use Rattle.c_typed.specs.declared.operator.Relation.TheVariants.{Less}
use Rattle.c_typed.specs.declared.operator.UnaryOp.TheVariants as unary_op
use Rattle.c_typed.specs.Typed.{ExprTree, expr, get, inc_dec, place, local, no_expr, some_expr, no_initial, initial_value, null, value, block, if_else, loop, do_while, break, return_value, switch, no_groups, group_then, FunctionTree}
use Rattle.g_graph.specs.declared.op.Op.TheVariants as node_op
use Rattle.g_build_def.specs.Functions.{function_values}
use Rattle.c_typed.proofs.lemmas.ShortForms.{int, int_value, number, variable, computed, compared, set, begin_with, function}
use Rattle.g_build_def.proofs.examples.Trees.{with_op, items, main_listed}

abbrev less_than_three : (slot : ℕ) → ExprTree
less_than_three k = compared Less (variable k) (number 3)

abbrev plus_one : (slot : ℕ) → ExprTree
plus_one k = computed Add (variable k) (number 1)

-- int main(void) { int k = 5, i; for (i = 0; i < 3; i++) ; return k + i; }
abbrev counted : FunctionTree
counted =
    function int 0 (int_value ∷ int_value ∷ [])
    (begin_with 0 (initial_value (number 5))
    (begin_with 1 no_initial
    (items
    (block (items
    (set 1 (number 0)
    ∷ loop (some_expr (less_than_three 1)) (some_expr (expr int (inc_dec (record { up = true; gives_old = true; by = 1 }) (place int (local 1))))) null
    ∷ []))
    ∷ return_value (computed Add (variable 0) (variable 1))
    ∷ []))))

counted-listed : main_listed counted
    ≡ (0, node_op.Const 5) ∷ (1, node_op.Undef) ∷ (2, node_op.Const 0) ∷ (3, node_op.Theta) ∷ (4, node_op.Const 3) ∷ (5, node_op.Bin Slt)
    ∷ (6, node_op.Gamma) ∷ (7, node_op.Const 0) ∷ (8, node_op.Const 1) ∷ (9, node_op.Bin Add) ∷ (10, node_op.Const 1) ∷ (11, node_op.Bin Add) ∷ []
counted-listed = refl

counted-values : function_values counted ≡ 67
counted-values = refl

-- int main(void) { int a = getchar(), x = 1; if (a) x = a * 3; return x; }
chosen-values : function_values
    (function int 0 (int_value ∷ int_value ∷ [])
    (begin_with 0 (initial_value (expr int get))
    (begin_with 1 (initial_value (number 1))
    (items (if_else (variable 0) (set 1 (computed Mul (variable 0) (number 3))) null ∷ return_value (variable 1) ∷ [])))))
    ≡ 38
chosen-values = refl

-- int main(void) { int i = 0; while (i < 3) i = i + 1; return i; }
while-values : function_values
    (function int 0 (int_value ∷ [])
    (begin_with 0 (initial_value (number 0)) (items (loop (some_expr (less_than_three 0)) no_expr (set 0 (plus_one 0)) ∷ return_value (variable 0) ∷ []))))
    ≡ 53
while-values = refl

-- int main(void) { int i = 0; do i = i + 1; while (i < 3); return i; }
do-values : function_values
    (function int 0 (int_value ∷ [])
    (begin_with 0 (initial_value (number 0)) (items (do_while (set 0 (plus_one 0)) (less_than_three 0) ∷ return_value (variable 0) ∷ []))))
    ≡ 28
do-values = refl

-- int main(void) { int x = 2; switch (x) { case 1: ; case 2: putchar(65); break; default: return 9; } return x; }
abbrev switched : FunctionTree
switched =
    function int 0 (int_value ∷ [])
    (begin_with 0 (initial_value (number 2))
    (items
    (switch (variable 0)
    (group_then (1 ∷ []) false (items (null ∷ []))
    (group_then (2 ∷ []) false (items (value (with_op unary_op.Put (number 65)) ∷ break ∷ [])) (group_then [] true (items (return_value (number 9) ∷ [])) no_groups)))
    ∷ return_value (variable 0)
    ∷ [])))

-- the number of the segment, which begins as that of `default`; `from`, which begins as the group of `default`; the regions
-- of the segments; and what follows, unless `go` is set
switched-listed : main_listed switched
    ≡ (0, node_op.Const 0) ∷ (1, node_op.Const 0) ∷ (2, node_op.Const 2)
    ∷ (3, node_op.Const 1)
    ∷ (4, node_op.Const 1) ∷ (5, node_op.Bin Eq) ∷ (6, node_op.Const (2 ^ 32 - 1)) ∷ (7, node_op.Bin Mul) ∷ (8, node_op.Bin Add)
    ∷ (9, node_op.Const 2) ∷ (10, node_op.Bin Eq) ∷ (11, node_op.Const (2 ^ 32 - 1)) ∷ (12, node_op.Bin Mul) ∷ (13, node_op.Bin Add)
    ∷ (14, node_op.Const 2)
    ∷ (15, node_op.Const (2 ^ 32 - 2)) ∷ (16, node_op.Bin Mul) ∷ (17, node_op.Bin Add)
    ∷ (18, node_op.Const (2 ^ 32 - 1)) ∷ (19, node_op.Bin Mul) ∷ (20, node_op.Bin Add)
    ∷ (21, node_op.Gamma)
    ∷ (22, node_op.Const 1) ∷ (23, node_op.Bin Sltu) ∷ (24, node_op.Gamma)
    ∷ (25, node_op.Const 2) ∷ (26, node_op.Bin Sltu) ∷ (27, node_op.Gamma)
    ∷ (28, node_op.Const 65) ∷ (29, node_op.Put) ∷ (30, node_op.Un Zext8) ∷ (31, node_op.Const 1)
    ∷ (32, node_op.Const 9) ∷ (33, node_op.Const 3)
    ∷ (34, node_op.Const 1) ∷ (35, node_op.Bin Ne) ∷ (36, node_op.Bin Mul)
    ∷ (37, node_op.Gamma) ∷ (38, node_op.Const 3) ∷ []
switched-listed = refl

switched-values : function_values switched ≡ 216
switched-values = refl
