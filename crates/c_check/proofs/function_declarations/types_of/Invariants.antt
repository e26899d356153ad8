use Rattle.std.proofs.Common.{◌≡◌, map, take}
use Rattle.c_check_def.specs.Externals.{Param}
use Rattle.c_check.proofs.function_declarations.types_of.Given as goal

abbrev pub invariant-loop-p : goal.invariant-loop-p
invariant-loop-p l = l.types.items ≡ map (λ (p : Param). p.type) (take l.p-index l.params)
