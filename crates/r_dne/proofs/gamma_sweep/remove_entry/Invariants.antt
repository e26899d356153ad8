-- The arguments of so many regions have gone.
use Rattle.std.proofs.Common.{◌≡◌, ◌+◌}
use Rattle.g_arena_def.specs.Flat.{place_in}
use Rattle.g_arena_def.specs.Edits.{argument_removed}
use Rattle.r_sweep.specs.Removals.{each_of}
use Rattle.r_dne.proofs.gamma_sweep.remove_entry.Given as goal

abbrev pub invariant-loop-region : goal.invariant-loop-region
invariant-loop-region g l =
    record { gone : l.arena ≡ each_of (λ j. argument_removed (place_in l.shape.node j) l.index) l.region l.initial.arena; looks : l.looks ≡ l.initial.looks + l.region }
