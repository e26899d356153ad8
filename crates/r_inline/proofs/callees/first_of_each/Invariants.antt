-- The callees so far, from behind.
use Rattle.std.proofs.Common.{◌≡◌, ℕ, map, drop}
use Rattle.std.specs.Arc.{arc_value}
use Rattle.std.specs.Ordering.{nat_cmp}
use Rattle.std.specs.BTreeMap.{get}
use Rattle.std.specs.List.{AllByRecursion}
use Rattle.g_graph.specs.WellFormed.{IsWellFormed}
use Rattle.r_inline.specs.Callees.{numbered}
use Rattle.r_inline.specs.AskedAt.{lambdas_in, callee_at}
use Rattle.r_inline.proofs.callees.first_of_each.Given as goal

-- the first of the callees from an index on; and those are well formed
abbrev pub invariant-loop-i : goal.invariant-loop-i
invariant-loop-i l =
    AllByRecursion IsWellFormed (lambdas_in (map arc_value (drop l.i l.callees)))
    × ((f : ℕ) → callee_at (lambdas_in (map arc_value l.callees)) (get nat_cmp l.first f) ≡ numbered f (lambdas_in (map arc_value (drop l.i l.callees))))
