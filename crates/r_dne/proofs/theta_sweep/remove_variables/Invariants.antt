-- Those from an index on went that are to go.
use Rattle.std.proofs.Common.{◌≡◌, ◌≤◌, ◌+◌, ◌*◌, drop}
use Rattle.r_sweep.specs.Removals.{from_last, variable_removed}
use Rattle.r_dne.proofs.theta_sweep.remove_variables.Given as goal

abbrev pub invariant-loop-index : goal.invariant-loop-index
invariant-loop-index g l = record {
  gone : l.arena ≡ from_last (variable_removed l.shape.node) l.index (drop l.index l.stay) l.fn.arena;
  within : l.index ≤ l.shape.outputs;
  looks : l.looks + 4 * l.index ≤ l.fn.looks + 4 * l.shape.outputs;
}

abbrev pub decreases-loop-index : goal.decreases-loop-index
decreases-loop-index g l = l.index
