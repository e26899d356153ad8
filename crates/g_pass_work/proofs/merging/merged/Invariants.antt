-- Of the functions so far the answers are put together.
use Rattle.std.proofs.Common.{◌≡◌, ◌≤◌, ◌++◌, map, drop}
use Rattle.std.specs.Arc.{arc_value}
use Rattle.g_pass_work.specs.Renewal.{merged}
use Rattle.g_pass_work.proofs.merging.merged.Given as goal

-- what has been put together, and what is made of the rest
abbrev pub invariant-loop-function : goal.invariant-loop-function
invariant-loop-function g l =
    (l.taken ≤ l.function-index)
    × (map arc_value l.all.items ++ merged l.stale (map arc_value l.kept) (drop l.function-index l.functions) (drop l.taken (map arc_value l.given))
    ≡ merged l.stale (map arc_value l.kept) l.functions (map arc_value l.given))
