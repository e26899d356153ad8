use Rattle.std.proofs.Common.{◌≡◌, map}
use Rattle.c_check_def.specs.Externals.{variable_tree}
use Rattle.c_check.proofs.functions.variables.Given as goal

abbrev pub invariant-loop-v : goal.invariant-loop-v
invariant-loop-v v = v.out.items ≡ map variable_tree v.yielded
