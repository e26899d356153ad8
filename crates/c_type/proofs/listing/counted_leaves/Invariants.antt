use Rattle.std.proofs.Common.{◌≡◌, ◌+◌, ◌≤◌}
use Rattle.c_type.specs.Layout.{leaves}
use Rattle.c_type.specs.WellDefined.{AreDefinitions}
use Rattle.c_type.specs.Pending.{all_listed, CanListAll, type_work, all_work}
use Rattle.c_type.proofs.listing.counted_leaves.Given as goal

abbrev pub invariant-loop-next : goal.invariant-loop-next
invariant-loop-next g l =
    record {
      ordered : AreDefinitions l.types;
      same : all_listed l.types l.pending.items l.out.items ≡ leaves l.types l.t;
      can : CanListAll l.types l.pending.items l.out.items;
      cost : l.steps + all_work l.types l.pending.items ≤ l.initial.steps + type_work l.types l.t;
    }

abbrev pub decreases-loop-next : goal.decreases-loop-next
decreases-loop-next g l = all_work l.types l.pending.items
