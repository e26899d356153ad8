use Rattle.std.proofs.Common.{◌≡◌, ◌≤◌, ◌++◌, map, take}
use Rattle.std.specs.Prelude.{option_map, None, slice_index_or, vec_capacity}
use Rattle.std.specs.List.{filter_map}
use Rattle.std.specs.Arc.{arc_value}
use Rattle.board_core.proofs.board.add_results.Given as goal

abbrev pub invariant-loop-dep : goal.invariant-loop-dep
invariant-loop-dep g l =
    (map arc_value l.out.items ≡ map arc_value l.initial.out.items ++ filter_map (λ d. option_map arc_value (slice_index_or l.results d None)) (take l.dep-index l.deps))
    × (vec_capacity l.initial.out ≤ vec_capacity l.out)
