use Rattle.std.proofs.Common.{◌≡◌, map, take}
use Rattle.std.specs.Arc.{arc_value}
use Rattle.rv_layout.specs.Layout.{item_lists}
use Rattle.cc_session.specs.Items.{items_of}
use Rattle.cc_session.proofs.items.items_since.Given as goal

abbrev pub invariant-loop-function : goal.invariant-loop-function
invariant-loop-function l = item_lists l.all.items ≡ items_of l.form (map arc_value (take l.function l.answers))
