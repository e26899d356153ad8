-- The entries from an index on are judged.
use Rattle.std.proofs.Common.{◌≡◌, ◌≤◌, ◌+◌, ◌*◌, ◌&&◌, ◌||◌, not, false, List, drop, length}
use Rattle.g_graph.specs.declared.op.Kind.{Kind}
use Rattle.r_edit.specs.InPlace.{all_stay}
use Rattle.r_sweep.specs.Removals.{from_last, entry_removed}
use Rattle.r_dne.specs.Listed.{used_arguments}
use Rattle.r_dne.specs.Gone.{with_note}
use Rattle.r_dne.proofs.gamma_sweep.shrink_entries.Given as goal

abbrev pub invariant-loop-index : goal.invariant-loop-index
invariant-loop-index g l = record {
  gone : (ks : List Kind) → length ks ≡ l.count →
      l.arena ≡ from_last (entry_removed l.shape.node l.shape.regions) l.index (drop l.index (used_arguments l.fn.arena l.shape.node l.shape.regions 0 ks)) l.fn.arena;
  noted : (ks : List Kind) → length ks ≡ l.count →
      l.noted ≡ (l.fn.noted || not (all_stay (drop l.index (used_arguments l.fn.arena l.shape.node l.shape.regions 0 ks))));
  kept : l.noted ≡ false → l.arena ≡ l.fn.arena;
  first : l.noted ≡ false → l.fn.noted ≡ false;
  log : l.log.items ≡ with_note (l.noted && not l.fn.noted) l.shape.node l.fn.log.items;
  within : l.index ≤ l.count;
  looks : l.looks + (2 * l.shape.regions + 1) * l.index ≤ l.fn.looks + (2 * l.shape.regions + 1) * l.count;
}

abbrev pub decreases-loop-index : goal.decreases-loop-index
decreases-loop-index g l = l.index
