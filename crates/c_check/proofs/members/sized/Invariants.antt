use Rattle.std.proofs.Common.{◌≡◌, map, take}
use Rattle.c_check_def.specs.declared.dimension.Dimension.TheVariants as dimension
use Rattle.c_check.proofs.members.sized.Given as goal

abbrev pub invariant-loop-size : goal.invariant-loop-size
invariant-loop-size l = l.all.items ≡ map dimension.Sized (take l.size-index l.sizes)
