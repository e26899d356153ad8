-- The arguments so far are named.
use Rattle.std.proofs.Common.{ℕ, ◌<◌}
use Rattle.g_graph.specs.declared.op.Origin.TheVariants.{Arg}
use Rattle.g_arena_use.specs.UseCells.{IsNamed}
use Rattle.g_arena_use.specs.Lists.{use_in}
use Rattle.g_arena.specs.Stores.{AreKept}
use Rattle.g_arena.proofs.making.name_args.Given as goal

abbrev pub invariant-loop-index : goal.invariant-loop-index
invariant-loop-index l = record {
  kept : AreKept l.fn.names l.names;
  named : (k : ℕ) → k < l.index → IsNamed (use_in l.home (Arg k)) l.names;
}
