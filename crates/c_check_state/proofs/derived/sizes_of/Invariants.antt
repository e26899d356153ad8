use Rattle.std.proofs.Common.{◌≡◌, map, take}
use Rattle.c_check_def.specs.DeclaredTypes.{size_of_dimension}
use Rattle.c_check_state.proofs.derived.sizes_of.Given as goal

abbrev pub invariant-loop-d : goal.invariant-loop-d
invariant-loop-d l = l.sizes.items ≡ map size_of_dimension (take l.d-index l.dimensions)
