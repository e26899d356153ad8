use Rattle.std.proofs.Common.{◌≡◌, Some, take}
use Rattle.c_check_def.specs.Externals.{types_of}
use Rattle.c_check.proofs.member_list.types_of.Given as goal

abbrev pub invariant-loop-x : goal.invariant-loop-x
invariant-loop-x l = types_of (take l.x-index l.members) ≡ Some l.types.items
