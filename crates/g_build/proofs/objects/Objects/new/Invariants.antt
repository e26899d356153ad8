use Rattle.std.proofs.Common.{◌≡◌, ◌++◌, ◌<◌, ◌^◌, drop}
use Rattle.g_build.specs.Variables.{object_numbers}
use Rattle.g_build.proofs.objects.Objects.new.Given as goal

abbrev pub invariant-loop-variable : goal.invariant-loop-variable
invariant-loop-variable l = record {
  numbers : l.numbers.items ++ object_numbers l.number (drop l.variable-index l.variables) ≡ object_numbers 0 l.variables;
  few : l.number < 2 ^ 32;
}
