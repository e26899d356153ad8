-- Worked rows of whole functions: their nodes by number, and how many values they have.
use Rattle.std.proofs.Common.{◌≡◌, ◌-◌, ◌^◌, [], ◌∷◌, refl}
use Rattle.val_core.specs.declared.operation.Op2.TheVariants.{Add, Sub, Mul, Xor, Eq, Ne, Slt}
use Rattle.c_typed.specs.declared.operator.Relation.TheVariants.{Less, LessEqual}
use Rattle.c_typed.specs.declared.operator.UnaryOp.TheVariants.{Negate, Complement, LogicalNot}
use Rattle.c_typed.specs.declared.operator.BinaryOp.TheVariants as binary_op
use Rattle.c_type.specs.Trees.{array_of}
use Rattle.c_typed.specs.Typed.{ExprTree, expr, read, address, binary, logical_or, get, place, local, at, initial_value, no_elements, characters_then, initial_elements, null, if_else, return_value, FunctionTree}
use Rattle.g_graph.specs.declared.op.Kind.TheVariants.{Memory, Io}
use Rattle.g_graph.specs.declared.op.Origin.TheVariants.{Arg, Out}
use Rattle.g_graph.specs.declared.op.Op.TheVariants as node_op
use Rattle.g_graph.specs.Plain.{region, node, nodes_of, no_regions}
use Rattle.g_build_def.specs.Functions.{lambda_made, function_values}
use Rattle.c_typed.proofs.lemmas.ShortForms.{int, char, char_pointer, value_of, object_of, int_value, number, variable, computed, compared, set, begin_with, function, program}
use Rattle.g_build_def.proofs.examples.Trees.{with_op, items, listed, main_listed}

-- int main(void) { return 42; }
abbrev forty_two : FunctionTree
forty_two = function int 0 [] (items (return_value (number 42) ∷ []))

one_constant : lambda_made (program 0 (forty_two ∷ [])) 0 forty_two
    ≡ record {
      number = 0;
      params = 0;
      objects = [];
      body = region (Memory ∷ Io ∷ []) (nodes_of (node 0 (node_op.Const 42) [] no_regions ∷ [])) (Out 0 0 ∷ Arg 0 ∷ Arg 1 ∷ []);
      next = 1;
    }
one_constant = refl

one_constant-values : function_values forty_two ≡ 8
one_constant-values = refl

-- int main(void) { return 40 + 2; }
sum-values : function_values (function int 0 [] (items (return_value (computed Add (number 40) (number 2)) ∷ []))) ≡ 12
sum-values = refl

-- int main(void) { int a = getchar(); return a * a + a * a; }
abbrev square : ExprTree
square = computed Mul (variable 0) (variable 0)

squares-values : function_values (function int 0 (int_value ∷ []) (begin_with 0 (initial_value (expr int get)) (items (return_value (computed Add square square) ∷ [])))) ≡ 15
squares-values = refl

-- int f(int a) { a = -a; return ~a <= 3; }
abbrev unaries : FunctionTree
unaries =
    function int 1 (int_value ∷ [])
    (items (set 0 (with_op Negate (variable 0)) ∷ return_value (compared LessEqual (with_op Complement (variable 0)) (number 3)) ∷ []))

unaries-listed : listed unaries
    ≡ (0, node_op.Const 0) ∷ (1, node_op.Bin Sub) ∷ (2, node_op.Const (2 ^ 32 - 1)) ∷ (3, node_op.Bin Xor) ∷ (4, node_op.Const 3) ∷ (5, node_op.Bin Slt)
    ∷ (6, node_op.Const 0) ∷ (7, node_op.Bin Eq) ∷ []
unaries-listed = refl

unaries-values : function_values unaries ≡ 23
unaries-values = refl

-- int f(int a, int b) { if (a < b) return a; return b; }
abbrev lesser : FunctionTree
lesser =
    function int 2 (int_value ∷ int_value ∷ [])
    (items (if_else (compared Less (variable 0) (variable 1)) (return_value (variable 0)) null ∷ return_value (variable 1) ∷ []))

lesser-listed : listed lesser
    ≡ (0, node_op.Const 0) ∷ (1, node_op.Undef) ∷ (2, node_op.Bin Slt) ∷ (3, node_op.Gamma) ∷ (4, node_op.Const 3) ∷ (5, node_op.Gamma)
    ∷ (6, node_op.Const 3) ∷ []
lesser-listed = refl

lesser-values : function_values lesser ≡ 84
lesser-values = refl

-- int main(void) { char s[3] = "ab"; char *p = s; return !p || s[1]; }
abbrev first_of_s : ExprTree
first_of_s = expr char_pointer (address (place (array_of char 3) (local 0)))

abbrev second_of_s : ExprTree
second_of_s = expr char (read (place char (at (expr char_pointer (binary (binary_op.PointerPlus 1) first_of_s (number 1))))))

abbrev characters : FunctionTree
characters =
    function int 0 (object_of (array_of char 3) ∷ value_of char_pointer ∷ [])
    (begin_with 0 (initial_elements (characters_then 0 (97 ∷ 98 ∷ []) no_elements))
    (begin_with 1 (initial_value first_of_s)
    (items (return_value (expr int (logical_or (with_op LogicalNot (expr char_pointer (read (place char_pointer (local 1))))) second_of_s)) ∷ []))))

characters-listed : main_listed characters
    ≡ (0, node_op.Clear 0)
    ∷ (1, node_op.Const 97) ∷ (2, node_op.Local 0) ∷ (3, node_op.Const 0) ∷ (4, node_op.Bin Add) ∷ (5, node_op.Store 1)
    ∷ (6, node_op.Const 98) ∷ (7, node_op.Local 0) ∷ (8, node_op.Const 1) ∷ (9, node_op.Bin Add) ∷ (10, node_op.Store 1)
    ∷ (11, node_op.Local 0) ∷ (12, node_op.Const 0) ∷ (13, node_op.PtrEq) ∷ (14, node_op.Gamma)
    ∷ (15, node_op.Local 0) ∷ (16, node_op.Const 1) ∷ (17, node_op.Const 1) ∷ (18, node_op.Bin Mul) ∷ (19, node_op.Bin Add) ∷ (20, node_op.Load 1)
    ∷ (21, node_op.Const 0) ∷ (22, node_op.Bin Ne) ∷ (23, node_op.Const 1) ∷ []
characters-listed = refl

characters-values : function_values characters ≡ 73
characters-values = refl
