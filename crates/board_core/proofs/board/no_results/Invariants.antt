use Rattle.std.proofs.Common.{◌≡◌, ◌≤◌, ◌-◌, map, length, vec_len}
use Rattle.std.specs.Prelude.{option_map, None, replicate}
use Rattle.std.specs.Arc.{arc_value}
use Rattle.board_core.proofs.board.no_results.Given as goal

abbrev pub invariant-loop-found : goal.invariant-loop-found
invariant-loop-found g l =
    (map (option_map arc_value) l.found.items ≡ replicate (length l.found.items) None) × (length l.found.items ≤ l.count)

abbrev pub decreases-loop-found : goal.decreases-loop-found
decreases-loop-found g l = l.count - vec_len l.found
