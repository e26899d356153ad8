use Rattle.std.proofs.Common.{◌≡◌, take}
use Rattle.rv_layout.specs.Items.{items_size}
use Rattle.rv_layout.proofs.sizes.items_size.Given as goal

abbrev pub invariant-loop-item : goal.invariant-loop-item
invariant-loop-item l = l.size ≡ items_size (take l.item-index l.items)
