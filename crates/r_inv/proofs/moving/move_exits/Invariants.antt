-- Those from an index on have gone.
use Rattle.std.proofs.Common.{◌≡◌, ◌≤◌, ◌+◌, drop}
use Rattle.r_sweep.specs.Removals.{exits_carried}
use Rattle.r_inv.specs.Cost.{exits_cost}
use Rattle.r_inv.proofs.moving.move_exits.Given as goal

abbrev pub invariant-loop-port : goal.invariant-loop-port
invariant-loop-port g l = record {
  gone : l.arena ≡ exits_carried l.shape.node l.shape.regions l.shape.home l.port (drop l.port l.carried) l.fn.arena;
  looks : l.looks ≡ l.fn.looks + exits_cost l.shape.node l.shape.regions l.shape.home l.port (drop l.port l.carried) l.fn.arena;
  within : l.port ≤ l.shape.outputs;
}

abbrev pub decreases-loop-port : goal.decreases-loop-port
decreases-loop-port g l = l.port
