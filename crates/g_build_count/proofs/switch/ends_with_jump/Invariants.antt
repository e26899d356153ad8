use Rattle.std.proofs.Common.{◌≡◌, drop}
use Rattle.std.specs.Prelude.{if◌then◌else◌}
use Rattle.c_typed.specs.StmtViews.{items_of}
use Rattle.g_build_def.specs.Exits.{some_items}
use Rattle.g_build_def.specs.Switch.{ends_with_jump}
use Rattle.g_build_count.proofs.switch.ends_with_jump.Given as goal

abbrev pub invariant-loop-item : goal.invariant-loop-item
invariant-loop-item l =
    (if some_items (items_of (drop l.item-index l.items)) then ends_with_jump (items_of (drop l.item-index l.items)) else l.ends) ≡ ends_with_jump (items_of l.items)
