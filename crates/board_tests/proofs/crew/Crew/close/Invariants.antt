use Rattle.std.proofs.Common.{◌≡◌, ◌+◌, length}
use Rattle.board_tests.specs.Rests.{RestsAs}
use Rattle.board_tests.proofs.crew.Crew.close.Given as goal

abbrev pub invariant-loop-member : goal.invariant-loop-member
invariant-loop-member g l =
    RestsAs g.L.Named.lock g.L.Named.program 0 l.first × (l.first.me.0.splits ≡ l.initial.first.me.0.splits)
    × (length l.first.me.0.taken ≡ length l.initial.first.me.0.taken + length l.yielded)
