-- The uses of the origins so far are named.
use Rattle.std.proofs.Common.{◌≡◌, ℕ, ◌<◌, Some}
use Rattle.std.specs.Prelude.{slice_get}
use Rattle.g_graph.specs.declared.op.Origin.{Origin}
use Rattle.g_arena_use.specs.UseCells.{IsNamed}
use Rattle.g_arena_use.specs.Lists.{use_in}
use Rattle.g_arena.specs.Stores.{AreKept}
use Rattle.g_arena.proofs.making.name_origins.Given as goal

abbrev pub invariant-loop-k : goal.invariant-loop-k
invariant-loop-k l = record {
  kept : AreKept l.fn.names l.names;
  named : (j : ℕ) → j < l.k → (o : Origin) → slice_get l.origins j ≡ Some o → IsNamed (use_in l.home o) l.names;
}
