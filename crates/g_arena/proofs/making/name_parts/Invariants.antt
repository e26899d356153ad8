-- The arguments of the regions so far are named.
use Rattle.std.proofs.Common.{◌≡◌, ℕ, ◌<◌, Some, List, length}
use Rattle.std.specs.Prelude.{slice_get}
use Rattle.g_graph.specs.declared.op.Kind.{Kind}
use Rattle.g_graph.specs.declared.op.Origin.TheVariants.{Arg}
use Rattle.g_arena_def.specs.Flat.{place_in}
use Rattle.g_arena_use.specs.UseCells.{IsNamed}
use Rattle.g_arena_use.specs.Lists.{use_in}
use Rattle.g_arena.specs.Stores.{AreKept}
use Rattle.g_arena.proofs.making.name_parts.Given as goal

abbrev pub invariant-loop-r : goal.invariant-loop-r
invariant-loop-r l = record {
  kept : AreKept l.fn.names l.names;
  named : (j : ℕ) → j < l.r → (k : ℕ) (ks : List Kind) → slice_get l.parts j ≡ Some ks → k < length ks → IsNamed (use_in (place_in l.node j) (Arg k)) l.names;
}
