use Rattle.std.proofs.Common.{◌≡◌, take}
use Rattle.call_order.specs.Search.{all_at}
use Rattle.call_order.proofs.stages.put_all.Given as goal

abbrev pub invariant-loop-member : goal.invariant-loop-member
invariant-loop-member l = l.stages ≡ all_at l.initial.stages (take l.member-index l.members) l.stage
