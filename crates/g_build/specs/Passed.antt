-- The limits of the values of a program's lambdas as they are built.
use Rattle.std.specs.Prelude.{ℕ, ◌+◌, nat_lt, if◌then◌else◌, List, [], ◌∷◌, Option, None, Some}
use Rattle.std.specs.List.{sum_by}
use Rattle.std.specs.Option.{option_or}
use Rattle.base.specs.Limits.{most_lambda_values, most_built_values}
use Rattle.c_typed.specs.Typed.{FunctionTree}
use Rattle.g_graph.specs.Count.{saturated}
use Rattle.g_build_def.specs.Functions.{function_values}
use Rattle.g_build.specs.declared.passed.Passed.{Passed}

-- the first function whose lambda has too many values
abbrev pub first_large : List FunctionTree → Option Passed
first_large [] = None
first_large (f ∷ fs) =
    if nat_lt most_lambda_values (function_values f) then Some (record { at = f.at; which = 5; count = saturated (function_values f) }) else first_large fs

-- the place of the function with which there are too many, where there are so many before
abbrev pub first_beyond : (before : ℕ) → List FunctionTree → ℕ
first_beyond n [] = 0
first_beyond n (f ∷ fs) = if nat_lt most_built_values (n + function_values f) then f.at else first_beyond (n + function_values f) fs

abbrev pub limit_passed : List FunctionTree → Option Passed
limit_passed fs =
    option_or (first_large fs)
    (if nat_lt most_built_values (sum_by function_values fs)
    then Some (record { at = first_beyond 0 fs; which = 6; count = saturated (sum_by function_values fs) })
    else None)
