-- So many results have gone.
use Rattle.std.proofs.Common.{◌≡◌, ◌+◌}
use Rattle.g_arena_def.specs.Flat.{place_in}
use Rattle.g_arena_def.specs.Edits.{result_removed, output_removed}
use Rattle.r_sweep.specs.Removals.{each_of}
use Rattle.r_sweep.proofs.exits.remove_exit.Given as goal

abbrev pub invariant-loop-region : goal.invariant-loop-region
invariant-loop-region g l =
    record { gone : l.arena ≡ each_of (λ j. result_removed (place_in l.node j) l.port) l.region (output_removed l.node l.port l.fn.arena); looks : l.looks ≡ l.fn.looks + 1 + l.region }
