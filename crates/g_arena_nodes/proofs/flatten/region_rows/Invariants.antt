-- The rows so far.
use Rattle.std.proofs.Common.{◌≡◌, map, take}
use Rattle.g_arena_def.specs.Flat.{region_flat}
use Rattle.g_arena_nodes.proofs.flatten.region_rows.Given as goal

abbrev pub invariant-loop-region : goal.invariant-loop-region
invariant-loop-region l = l.rows.items ≡ map region_flat (take l.region-index l.regions)
