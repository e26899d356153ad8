-- The exits from an index on are judged.
use Rattle.std.proofs.Common.{◌≡◌, ◌≤◌, ◌+◌, ◌*◌, not, false, Some, drop, length}
use Rattle.r_edit.specs.InPlace.{all_stay}
use Rattle.g_arena_def.specs.Flat.{FlatNode}
use Rattle.g_arena_def.specs.Reads.{found}
use Rattle.r_sweep.specs.Removals.{from_last, exit_removed}
use Rattle.r_dne.specs.Listed.{exits_in}
use Rattle.r_dne.specs.Gone.{with_note}
use Rattle.r_dne.proofs.gamma_sweep.shrink_exits.Given as goal

abbrev pub invariant-loop-port : goal.invariant-loop-port
invariant-loop-port g l = record {
  gone : (x : FlatNode) → found l.shape.node l.fn.arena.nodes ≡ Some x →
      l.arena ≡ from_last (exit_removed l.shape.node (length x.regions)) l.port (drop l.port (exits_in l.fn.arena x)) l.fn.arena;
  noted : (x : FlatNode) → found l.shape.node l.fn.arena.nodes ≡ Some x → l.noted ≡ not (all_stay (drop l.port (exits_in l.fn.arena x)));
  kept : l.noted ≡ false → l.arena ≡ l.fn.arena;
  log : l.log.items ≡ with_note l.noted l.shape.node l.fn.log.items;
  within : l.port ≤ l.shape.outputs;
  looks : l.looks + (2 + l.shape.regions) * l.port ≤ l.fn.looks + (2 + l.shape.regions) * l.shape.outputs;
}

abbrev pub decreases-loop-port : goal.decreases-loop-port
decreases-loop-port g l = l.port
