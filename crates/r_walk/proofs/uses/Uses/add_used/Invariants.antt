-- What is added, with what is left, makes the whole; the port is that of the next result.
use Rattle.std.proofs.Common.{◌≡◌, ◌||◌, ◌^◌, ◌<◌, ℕ, List, drop}
use Rattle.g_graph.specs.declared.op.Origin.{Origin}
use Rattle.g_graph.specs.declared.op.Origin.TheVariants.{Out}
use Rattle.r_walk.specs.Walk.{is_in, results_used}
use Rattle.r_walk.specs.Around.{uses_in, AreUses}
use Rattle.r_walk.proofs.uses.Uses.add_used.Given as goal

abbrev pub invariant-loop-origin : goal.invariant-loop-origin
invariant-loop-origin l =
    (os : List Origin) → AreUses l.outer os → (n p : ℕ) → p < 2 ^ 32 →
    (uses_in l.self n p || is_in (results_used os l.node l.port (drop l.origin-index l.results)) (Out n p)) ≡ (uses_in l.fn.self n p || is_in (results_used os l.node 0 l.results) (Out n p))
