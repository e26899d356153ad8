use Rattle.std.proofs.Common.{◌≡◌, map, take}
use Rattle.r_push.specs.Edit.{longer}
use Rattle.r_push.proofs.grow.longer_lists.Given as goal

abbrev pub invariant-loop-region : goal.invariant-loop-region
invariant-loop-region l = l.lists.items ≡ map (longer l.loops) (take l.region-index l.regions)
