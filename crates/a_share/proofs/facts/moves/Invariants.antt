-- What holds before each turn of the loops of `moves`.
use Rattle.std.proofs.Common.{◌≡◌, ◌++◌, map, drop}
use Rattle.s_linear.specs.Views.{line_of}
use Rattle.a_share.specs.Tables.{move_depths}
use Rattle.a_share.proofs.facts.moves.Given as goal

abbrev pub invariant-loop-position : goal.invariant-loop-position
invariant-loop-position l =
    l.moves.items ++ move_depths (map line_of (drop l.position l.lines)) (drop l.position l.depths) ≡ move_depths (map line_of l.lines) l.depths
