-- What is added, with what is left, makes the whole.
use Rattle.std.proofs.Common.{◌≡◌, ◌||◌, ◌^◌, ◌<◌, ℕ, drop}
use Rattle.g_graph.specs.declared.op.Origin.TheVariants.{Out}
use Rattle.r_walk.specs.Walk.{is_in}
use Rattle.r_walk.specs.Around.{uses_in}
use Rattle.r_walk.proofs.uses.Uses.add.Given as goal

abbrev pub invariant-loop-origin : goal.invariant-loop-origin
invariant-loop-origin l =
    (n p : ℕ) → p < 2 ^ 32 → (uses_in l.self n p || is_in (drop l.origin-index l.origins) (Out n p)) ≡ (uses_in l.fn.self n p || is_in l.origins (Out n p))
