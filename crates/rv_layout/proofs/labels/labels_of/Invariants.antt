use Rattle.std.proofs.Common.{◌≡◌, ℕ, ◌+◌, take, drop}
use Rattle.std.specs.Ordering.{nat_cmp}
use Rattle.std.specs.BTreeMap.{get}
use Rattle.rv_layout.specs.Items.{items_size, label_at}
use Rattle.rv_layout.proofs.labels.labels_of.Given as goal

-- the labels among the items from an index on
abbrev pub invariant-loop-i : goal.invariant-loop-i
invariant-loop-i l = record {
  place : l.here ≡ l.at + items_size (take l.i l.items);
  found : (label : ℕ) → get nat_cmp l.labels label ≡ label_at label l.here (drop l.i l.items);
}
