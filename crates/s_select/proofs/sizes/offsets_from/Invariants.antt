-- With the offsets of the objects that are left, those of all objects.
use Rattle.std.proofs.Common.{◌≡◌, ◌+◌, ◌++◌, drop, sum_by}
use Rattle.s_linear.specs.Frame.{object_room}
use Rattle.s_select.specs.Operands.{offsets_from}
use Rattle.s_select.proofs.sizes.offsets_from.Given as goal

-- with what is left, all of them
abbrev pub invariant-loop-object : goal.invariant-loop-object
invariant-loop-object l = record {
  offsets : l.all.items ++ offsets_from l.at (drop l.object-index l.objects) ≡ offsets_from l.start l.objects;
  end : l.at + sum_by object_room (drop l.object-index l.objects) ≡ l.start + sum_by object_room l.objects;
}
