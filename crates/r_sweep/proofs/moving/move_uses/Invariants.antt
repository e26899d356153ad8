-- So many uses have moved.
use Rattle.std.proofs.Common.{◌≡◌, ◌+◌}
use Rattle.r_sweep.specs.Removals.{uses_changed}
use Rattle.r_sweep.proofs.moving.move_uses.Given as goal

abbrev pub invariant-loop-i : goal.invariant-loop-i
invariant-loop-i g l =
    record { changed : l.arena ≡ uses_changed l.home l.from l.to l._i l.initial.arena; looks : l.looks ≡ l.initial.looks + l._i }
