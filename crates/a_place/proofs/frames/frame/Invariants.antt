use Rattle.std.proofs.Common.{◌≡◌, ◌+◌, ◌*◌, take}
use Rattle.std.specs.List.{sum_by}
use Rattle.s_linear.specs.Frame.{object_room}
use Rattle.a_place.proofs.frames.frame.Given as goal

abbrev pub invariant-loop-object : goal.invariant-loop-object
invariant-loop-object l = l.room ≡ 4 * l.places.count + sum_by object_room (take l.object-index l.objects)
