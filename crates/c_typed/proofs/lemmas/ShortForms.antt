-- Short forms for the trees of the worked rows.
use Rattle.std.specs.Prelude.{ℕ, Bool, true, false, List, []}
use Rattle.val_core.specs.declared.operation.Op2.{Op2}
use Rattle.c_type.specs.declared.scalar.Scalar.TheVariants as scalar
use Rattle.c_type.specs.Trees.{TypeTree, scalar_type, pointer_to}
use Rattle.c_type.specs.Layout.{Definitions}
use Rattle.c_typed.specs.declared.operator.Relation.{Relation}
use Rattle.c_typed.specs.declared.operator.UnaryOp.TheVariants as unary_op
use Rattle.c_typed.specs.declared.operator.BinaryOp.TheVariants as binary_op
use Rattle.c_typed.specs.declared.operator.IncDec.{IncDec}
use Rattle.c_typed.specs.Typed.{ExprTree, expr, constant, read, unary, binary, assign, call, ExprTrees, place, PlaceFormTree, local, InitialTree, no_initial, initial_value, StmtTree, value, ItemTrees, declare_then, VariableTree, FunctionTree, GlobalTree, ProgramTree}

-- ---- types and variables

abbrev pub int : TypeTree
int = scalar_type scalar.Int

abbrev pub char : TypeTree
char = scalar_type scalar.Char

abbrev pub int_pointer : TypeTree
int_pointer = pointer_to int

abbrev pub char_pointer : TypeTree
char_pointer = pointer_to char

abbrev pub value_of : TypeTree → VariableTree
value_of t = record { type = t; is_object = false }

abbrev pub object_of : TypeTree → VariableTree
object_of t = record { type = t; is_object = true }

abbrev pub int_value : VariableTree
int_value = value_of int

abbrev pub int_object : VariableTree
int_object = object_of int

-- ---- expressions of type `int`, but where a type is given

abbrev pub number : ℕ → ExprTree
number w = expr int (constant w)

abbrev pub read_of : TypeTree → PlaceFormTree → ExprTree
read_of t p = expr t (read (place t p))

abbrev pub variable : (slot : ℕ) → ExprTree
variable k = read_of int (local k)

abbrev pub computed : Op2 → ExprTree → ExprTree → ExprTree
computed o a b = expr int (binary (binary_op.Arithmetic o) a b)

abbrev pub compared : Relation → ExprTree → ExprTree → ExprTree
compared r a b = expr int (binary (binary_op.Compare r) a b)

abbrev pub converted : TypeTree → ExprTree → ExprTree
converted t e = expr t (unary unary_op.Convert e)

abbrev pub assigned : TypeTree → PlaceFormTree → ExprTree → ExprTree
assigned t p e = expr t (assign (place t p) e)

abbrev pub step_by : (up gives_old : Bool) → ℕ → IncDec
step_by up gives_old n = record { up = up; gives_old = gives_old; by = n }

abbrev pub put : ExprTree → ExprTree
put e = expr int (unary unary_op.Put e)

abbrev pub called : (function : ℕ) → ExprTrees → ExprTree
called f es = expr int (call f es)

-- ---- statements and declarations

abbrev pub set : (slot : ℕ) → ExprTree → StmtTree
set k e = value (assigned int (local k) e)

abbrev pub begin_with : (variable : ℕ) → InitialTree → ItemTrees → ItemTrees
begin_with k i is = declare_then (record { variable = k; names_itself = false; initial = i }) is

abbrev pub declare : (variable : ℕ) → ItemTrees → ItemTrees
declare k is = begin_with k no_initial is

abbrev pub begin : (variable : ℕ) → ExprTree → ItemTrees → ItemTrees
begin k e is = begin_with k (initial_value e) is

-- ---- functions and programs

abbrev pub function : (result : TypeTree) → (params : ℕ) → List VariableTree → (body : ItemTrees) → FunctionTree
function t n vs is = record { name = []; at = 0; starts = 0; ends = 0; result = t; params = n; variables = vs; body = is }

abbrev pub program_with : Definitions → List GlobalTree → (main : ℕ) → List FunctionTree → ProgramTree
program_with defs gs m fs = record { structs = defs; functions = fs; globals = gs; main = m }

abbrev pub program : (main : ℕ) → List FunctionTree → ProgramTree
program m fs = program_with [] [] m fs
