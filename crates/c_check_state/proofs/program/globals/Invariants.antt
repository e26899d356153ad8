use Rattle.std.proofs.Common.{◌≡◌, map}
use Rattle.c_check_def.specs.Check.{global_tree}
use Rattle.c_check_state.proofs.program.globals.Given as goal

abbrev pub invariant-loop-object : goal.invariant-loop-object
invariant-loop-object l = l.globals.items ≡ map global_tree l.yielded
