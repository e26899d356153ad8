-- Uses of those from an index on have moved.
use Rattle.std.proofs.Common.{◌≡◌, ◌≤◌, ◌+◌, drop}
use Rattle.r_sweep.specs.Removals.{uses_carried}
use Rattle.r_inv.specs.Cost.{uses_cost}
use Rattle.r_inv.proofs.moving.move_variables.Given as goal

abbrev pub invariant-loop-port : goal.invariant-loop-port
invariant-loop-port g l = record {
  gone : l.arena ≡ uses_carried l.shape.node l.shape.home l.port (drop l.port l.carried) l.fn.arena;
  looks : l.looks ≡ l.fn.looks + uses_cost l.shape.node l.shape.home l.port (drop l.port l.carried) l.fn.arena;
  within : l.port ≤ l.shape.outputs;
}

abbrev pub decreases-loop-port : goal.decreases-loop-port
decreases-loop-port g l = l.port
