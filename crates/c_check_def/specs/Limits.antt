-- The limits of programs: a quantity above its limit is reported with its count, at the offset of what passes the limit.
use Rattle.std.specs.Prelude.{ℕ, ◌+◌, nat_lt, if◌then◌else◌, List, [], ◌∷◌, map, length, Option, None, Some, option_map, slice_get}
use Rattle.std.specs.List.{sum}
use Rattle.std.specs.Option.{option_or}
use Rattle.base.specs.Limits.{most_functions, most_parameters, most_object_bytes, most_global_bytes, counted_bytes}
use Rattle.c_type.specs.Layout.{Definitions, size}
use Rattle.c_typed.specs.Typed.{VariableTree, FunctionTree, GlobalTree, ProgramTree}
use Rattle.c_check_def.specs.declared.refusal_kind.Quantity.{Quantity}
use Rattle.c_check_def.specs.declared.refusal_kind.Quantity.TheVariants.{Functions, Parameters, ObjectBytes, GlobalBytes}
use Rattle.c_check_def.specs.Refusals.{Refusal, above_limit}

-- ---- function definitions

abbrev pub many_functions : List FunctionTree → Option Refusal
many_functions fs = option_map (λ (f : FunctionTree). above_limit Functions f.at (length fs)) (slice_get fs most_functions)

-- ---- the first function with too many parameters, or bytes of objects

abbrev pub first_above : Quantity → (most : ℕ) → (FunctionTree → ℕ) → List FunctionTree → Option Refusal
first_above q most count [] = None
first_above q most count (f ∷ fs) = if nat_lt most (count f) then Some (above_limit q f.at (count f)) else first_above q most count fs

abbrev pub bytes_of : Definitions → VariableTree → ℕ
bytes_of defs v = if v.is_object then counted_bytes (size defs v.type) else 0

abbrev pub object_bytes : Definitions → FunctionTree → ℕ
object_bytes defs f = sum (map (bytes_of defs) f.variables)

-- ---- bytes of globals

abbrev pub global_bytes : Definitions → GlobalTree → ℕ
global_bytes defs g = counted_bytes (size defs g.type)

-- where the sum so far, from these bytes on, passes the limit
abbrev pub passing : Definitions → (bytes : ℕ) → List GlobalTree → Option ℕ
passing defs n [] = None
passing defs n (g ∷ gs) = if nat_lt most_global_bytes (n + global_bytes defs g) then Some g.at else passing defs (n + global_bytes defs g) gs

abbrev pub many_global_bytes : Definitions → List GlobalTree → Option Refusal
many_global_bytes defs gs = option_map (λ offset. above_limit GlobalBytes offset (sum (map (global_bytes defs) gs))) (passing defs 0 gs)

-- ---- the first of these

abbrev pub above_limits : ProgramTree → Option Refusal
above_limits p =
    option_or (many_functions p.functions)
    (option_or (first_above Parameters most_parameters (λ f. f.params) p.functions)
    (option_or (first_above ObjectBytes most_object_bytes (object_bytes p.structs) p.functions)
    (many_global_bytes p.structs p.globals)))
