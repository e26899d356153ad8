use Rattle.std.proofs.Common.{drop}
use Rattle.c_check.proofs.LargeLemmas.{EndAt}
use Rattle.c_check.proofs.large.are_large.Given as goal

abbrev pub invariant-loop-t : goal.invariant-loop-t
invariant-loop-t l = EndAt l.types l.members (drop l.t-index l.members) l.t-index l.end l.align
