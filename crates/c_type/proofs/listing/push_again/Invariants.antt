use Rattle.std.proofs.Common.{◌≡◌, ℕ, ◌<◌, ◌≤◌, ◌++◌, length, drop, map, get_or}
use Rattle.val_core.specs.declared.leaf.Leaf.{Leaf}
use Rattle.c_type.specs.Moved.{moved, CanMove}
use Rattle.c_type.proofs.listing.push_again.Given as goal

abbrev pub invariant-loop-i : goal.invariant-loop-i
invariant-loop-i l =
    record {
      whole : l.out.items ++ map (moved l.by) (drop l.i l.initial.out.items) ≡ l.initial.out.items ++ map (moved l.by) (drop l.first l.initial.out.items);
      same : (k : ℕ) (d : Leaf) → k < length l.initial.out.items → get_or l.out.items k d ≡ get_or l.initial.out.items k d;
      can : CanMove l.by (drop l.i l.initial.out.items);
      longer : length l.initial.out.items ≤ length l.out.items;
    }
