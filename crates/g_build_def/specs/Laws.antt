-- Laws of construction, for the proofs of the crates above.
use Rattle.std.specs.Prelude.{◌≡◌, ℕ, ◌≤◌, Bool, true, false, List, length, slice_get, Option, None, Some, option_map}
use Rattle.c_type.specs.Layout.{size}
use Rattle.c_typed.specs.Typed.{ExprTree, DeclarationTree, StmtTree, ItemTrees, VariableTree, FunctionTree, GlobalTree, ProgramTree}
use Rattle.g_graph.specs.declared.op.Origin.TheVariants.{Arg}
use Rattle.g_graph.specs.Count.{region_values}
use Rattle.g_build_def.specs.Writer.{SlotOrigin, held, object, numbered, Point, pushed}
use Rattle.g_build_def.specs.Expressions.{expr_made}
use Rattle.g_build_def.specs.Statements.{declared_made, stmt_made, items_made}
use Rattle.c_typed.specs.Objects.{object_number}
use Rattle.g_build_def.specs.Globals.{global_made, globals_made}
use Rattle.g_build_def.specs.Functions.{body_made, function_values, lambda_made, graph}

-- ---- points

-- the variables in scope, without their origins
abbrev pub shape : List SlotOrigin → List SlotOrigin
shape xs = numbered xs (λ _. Arg 0)

-- One point comes after another: the same variables are carried, and no number is given back.
pub record Later (s t : Point) : Type 0 where
  pub form : t.carried.form ≡ s.carried.form
  pub shape : shape t.carried.variables ≡ shape s.carried.variables
  pub next : s.next ≤ t.next

-- what a declaration brings into scope, without its origin
abbrev pub variable_shape : (is_object : Bool) → (number : ℕ) → SlotOrigin
variable_shape false k = held (Arg 0)
variable_shape true k = object k

abbrev pub shape_as : List VariableTree → (variable : ℕ) → Option VariableTree → SlotOrigin
shape_as vs k None = held (Arg 0)
shape_as vs k (Some v) = variable_shape v.is_object (object_number vs k)

abbrev pub declared_shape : List VariableTree → DeclarationTree → SlotOrigin
declared_shape vs d = shape_as vs d.variable (slice_get vs d.variable)

-- An expression keeps what is carried, but for origins,
abbrev pub ExpressionsKeepShape : Type 0
ExpressionsKeepShape = (e : ExprTree) (s : Point) → Later s (expr_made e s).after

-- a declaration brings its variable into scope,
abbrev pub DeclarationsBringIntoScope : Type 0
DeclarationsBringIntoScope = (vs : List VariableTree) (d : DeclarationTree) (s : Point) → Later (pushed (declared_shape vs d) s) (declared_made vs d s).after

-- and a statement and a list of items keep what is carried.
abbrev pub StatementsKeepShape : Type 0
StatementsKeepShape = (vs : List VariableTree) (a : StmtTree) (s : Point) → Later s (stmt_made vs a s).after

abbrev pub ItemsKeepShape : Type 0
ItemsKeepShape = (vs : List VariableTree) (is : ItemTrees) (s : Point) → Later s (items_made vs is s).after

-- ---- programs

-- The lambda of a function stands at its number, and there are as many lambdas as functions.
abbrev pub LambdasStandAtTheirNumbers : Type 0
LambdasStandAtTheirNumbers = (p : ProgramTree) (k : ℕ) → slice_get (graph p) k ≡ option_map (lambda_made p k) (slice_get p.functions k)

abbrev pub GlobalsStandAtTheirNumbers : Type 0
GlobalsStandAtTheirNumbers = (p : ProgramTree) (k : ℕ) → slice_get (globals_made p) k ≡ option_map (global_made p.structs) (slice_get p.globals k)

-- A global has as many bytes as its type.
abbrev pub GlobalsHaveTheirSize : Type 0
GlobalsHaveTheirSize = (p : ProgramTree) (g : GlobalTree) → length (global_made p.structs g).bytes ≡ size p.structs g.type

-- The lambda of a function has as many values whether the function is `main` or not.
abbrev pub ValuesAreOfTheFunction : Type 0
ValuesAreOfTheFunction = (is_main : Bool) (f : FunctionTree) → region_values (body_made is_main f) ≡ function_values f
