-- Laws of built graphs: the lambdas of a well-typed program are those of an image, and within the limits where the
-- program is.
use Rattle.std.specs.Prelude.{ℕ, ◌≡◌, ◌≤◌, length, slice_get, Some, if◌then◌else◌}
use Rattle.std.specs.List.{sum_by}
use Rattle.base.specs.Limits.{most_functions, most_parameters, counted_bytes, most_object_bytes, most_global_bytes, most_lambda_values, most_program_values}
use Rattle.c_type.specs.Layout.{Definitions, size}
use Rattle.c_typed.specs.Typed.{VariableTree, FunctionTree, GlobalTree, ProgramTree}
use Rattle.c_typed.specs.WellTyped.{IsWellTyped}
use Rattle.g_graph.specs.Program.{IsProgram, IsWithinLimits}
use Rattle.g_build_def.specs.Functions.{function_values, graph, omega}

-- Each lambda of the graph is well formed, stands at its number, and calls lambdas of the graph with an input for each
-- parameter and both states; `main` is there; and the globals are as an image asks.
abbrev pub WellTypedAreBuilt : Type 0
WellTypedAreBuilt = (p : ProgramTree) → IsWellTyped p → IsProgram (omega p) (graph p)

-- ---- the limits

-- the bytes that count for a variable: an object has a header
abbrev pub object_bytes : Definitions → VariableTree → ℕ
object_bytes defs v = if v.is_object then counted_bytes (size defs v.type) else 0

pub record FunctionIsSmall (defs : Definitions) (f : FunctionTree) : Type 0 where
  pub parameters : f.params ≤ most_parameters
  pub objects : sum_by (object_bytes defs) f.variables ≤ most_object_bytes
  pub values : function_values f ≤ most_lambda_values

-- a program within the limits
pub record IsSmall (p : ProgramTree) : Type 0 where
  pub functions : length p.functions ≤ most_functions
  pub each : (k : ℕ) (f : FunctionTree) → slice_get p.functions k ≡ Some f → FunctionIsSmall p.structs f
  pub values : sum_by function_values p.functions ≤ most_program_values
  pub globals : sum_by (λ (g : GlobalTree). counted_bytes (size p.structs g.type)) p.globals ≤ most_global_bytes

abbrev pub SmallAreWithinLimits : Type 0
SmallAreWithinLimits = (p : ProgramTree) → IsSmall p → IsWithinLimits (omega p) (graph p)
