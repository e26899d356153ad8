use Rattle.std.proofs.Common.{◌≡◌, ◌++◌, map, drop}
use Rattle.g_build_def.specs.Writer.{value_origins}
use Rattle.g_build_expression.specs.SlotViews.{slot_of}
use Rattle.g_build_expression.proofs.variables.Variables.push_origins.Given as goal

abbrev pub invariant-loop-variable : goal.invariant-loop-variable
invariant-loop-variable l =
    l.origins.items ++ value_origins (map slot_of (drop l.variable-index l.variable-items)) ≡ l.initial.origins.items ++ value_origins (map slot_of l.variable-items)
