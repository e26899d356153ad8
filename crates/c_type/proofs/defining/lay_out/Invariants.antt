use Rattle.std.proofs.Common.{drop}
use Rattle.c_type.specs.LaidUpTo.{LaidUpTo}
use Rattle.c_type.proofs.defining.lay_out.Given as goal

abbrev pub invariant-loop-t : goal.invariant-loop-t
invariant-loop-t l = LaidUpTo l.types l.members (drop l.t-index l.members) l.offsets.items l.end l.align
