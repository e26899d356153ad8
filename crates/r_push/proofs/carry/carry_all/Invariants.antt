use Rattle.r_push.proofs.Listed.{CarriedTo}
use Rattle.r_push.proofs.carry.carry_all.Given as goal

abbrev pub invariant-loop-i : goal.invariant-loop-i
invariant-loop-i l = CarriedTo l.id l.loops l.i l.initial.regions.items l.regions.items l.lists.items
