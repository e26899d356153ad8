use Rattle.std.proofs.Common.{◌≡◌, map, take, length}
use Rattle.std.specs.Arc.{arc_value}
use Rattle.cc_compile.specs.Compiled.{rows_of}
use Rattle.cc_compile.proofs.rows.rows_of.Given as goal

-- the rows so far are made
abbrev pub invariant-loop-function : goal.invariant-loop-function
invariant-loop-function l =
    (l.rows.items ≡ take (length l.yielded) (rows_of l.typed (map arc_value l.answers)))
    × (goal.iterator-loop-function).can_next l.function-iterator
    × (goal.iterator-loop-function).is_finite l.function-iterator
