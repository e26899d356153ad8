use Rattle.std.proofs.Common.{◌≡◌, take}
use Rattle.board_core.specs.History.{dep_lists}
use Rattle.board_core.proofs.board.copied.Given as goal

abbrev pub invariant-loop-list : goal.invariant-loop-list
invariant-loop-list l = dep_lists l.lists.items ≡ dep_lists (take l.list-index l.deps)
