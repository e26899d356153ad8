use Rattle.std.proofs.Common.{◌≡◌, take}
use Rattle.r_edit.specs.Carried.{staying}
use Rattle.r_inv.proofs.carried.staying.Given as goal

abbrev pub invariant-loop-origin : goal.invariant-loop-origin
invariant-loop-origin l = l.list.items ≡ staying (take l.origin-index l.carried)
