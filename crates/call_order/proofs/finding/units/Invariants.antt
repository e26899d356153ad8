use Rattle.std.proofs.Common.{ℕ, ◌≡◌, ◌≢◌, ◌<◌, length}
use Rattle.call_order.specs.declared.stages.Stage.TheVariants.{New}
use Rattle.call_order.specs.Units.{call_lists}
use Rattle.call_order.specs.Search.{IsSearchOf, stage_of}
use Rattle.call_order.proofs.finding.units.Given as goal

abbrev pub invariant-loop-function : goal.invariant-loop-function
invariant-loop-function l =
    IsSearchOf (call_lists l.calls) l.search × (length l.search.groups.items ≡ 0)
    × ((k : ℕ) → k < l.function → stage_of l.search.stages.items k ≢ New)
