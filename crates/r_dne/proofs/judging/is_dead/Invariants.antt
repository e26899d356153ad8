-- None of the first so many outputs stays.
use Rattle.std.proofs.Common.{◌≡◌, ◌≤◌, ◌+◌, Some, drop}
use Rattle.g_arena_def.specs.Flat.{FlatNode}
use Rattle.g_arena_def.specs.Reads.{found}
use Rattle.r_dne.specs.Listed.{exits_in}
use Rattle.r_dne.proofs.Judged.{some_true}
use Rattle.r_dne.proofs.judging.is_dead.Given as goal

abbrev pub invariant-loop-port : goal.invariant-loop-port
invariant-loop-port g l = record {
  none : (x : FlatNode) → found l.shape.node l.arena.nodes ≡ Some x → some_true (exits_in l.arena x) ≡ some_true (drop l.port (exits_in l.arena x));
  looks : l.looks ≤ l.initial.looks + l.port;
}
