-- So many are judged.
use Rattle.std.proofs.Common.{◌≡◌, ◌≤◌, ◌+◌, ◌*◌, ◌∷◌, [], Some, take}
use Rattle.g_arena_def.specs.Flat.{FlatNode, FlatRegion}
use Rattle.g_arena_def.specs.Reads.{found}
use Rattle.r_dne.specs.Listed.{used_loops}
use Rattle.r_dne.proofs.theta_sweep.judge.Given as goal

abbrev pub invariant-loop-index : goal.invariant-loop-index
invariant-loop-index g l = record {
  stay : (x : FlatNode) (r : FlatRegion) → found l.shape.node l.arena.nodes ≡ Some x → x.regions ≡ r ∷ [] → l.stay.items ≡ take l.index (used_loops l.arena x r 0 r.args);
  looks : l.looks ≤ l.initial.looks + 3 * l.index;
}
