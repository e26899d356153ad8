-- None of the first so many has a use.
use Rattle.std.proofs.Common.{◌≡◌, ◌≤◌, ◌+◌, drop}
use Rattle.r_inv.specs.Listed.{some_use}
use Rattle.r_inv.proofs.moving.some_use.Given as goal

abbrev pub invariant-loop-port : goal.invariant-loop-port
invariant-loop-port g l = record {
  none : some_use l.arena l.shape.home l.shape.node l.port (drop l.port l.carried) ≡ some_use l.arena l.shape.home l.shape.node 0 l.carried;
  looks : l.looks ≤ l.initial.looks + l.port;
}
