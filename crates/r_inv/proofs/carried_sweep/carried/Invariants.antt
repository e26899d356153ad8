-- So many are found.
use Rattle.std.proofs.Common.{◌≡◌, ◌≤◌, ◌+◌, ◌*◌, Some, take}
use Rattle.g_arena_def.specs.Flat.{FlatNode}
use Rattle.g_arena_def.specs.Reads.{found}
use Rattle.r_inv.specs.Carried.{carried_of}
use Rattle.r_inv.specs.Cost.{asked}
use Rattle.r_inv.proofs.carried_sweep.carried.Given as goal

abbrev pub invariant-loop-port : goal.invariant-loop-port
invariant-loop-port g l = record {
  list : (x : FlatNode) → found l.shape.node l.arena.nodes ≡ Some x → l.list.items ≡ take l.port (carried_of x);
  looks : l.looks ≤ l.initial.looks + asked l.shape.op l.shape.regions * l.port;
}
