use Rattle.std.proofs.Common.{◌≢◌, ◌+◌, ◌*◌, List, ℕ, length}
use Rattle.std.specs.List.{sum_by}
use Rattle.call_order.specs.declared.stages.Stage.TheVariants.{New}
use Rattle.call_order.specs.Units.{call_lists}
use Rattle.call_order.specs.Search.{IsSearchOf, StayEntered, stage_of, new_count, work_left}
use Rattle.call_order.proofs.search.Search.explore.Given as goal

abbrev pub invariant-loop-self : goal.invariant-loop-self
invariant-loop-self l =
    IsSearchOf (call_lists l.calls) l.self × (stage_of l.self.stages.items l.root ≢ New) × StayEntered l.fn.self.stages.items l.self.stages.items

abbrev pub decreases-loop-self : goal.decreases-loop-self
decreases-loop-self l = new_count l.self * (sum_by (λ (callees : List ℕ). length callees) (call_lists l.calls) + 2) + work_left l.self
