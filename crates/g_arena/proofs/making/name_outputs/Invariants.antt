-- The outputs so far are named.
use Rattle.std.proofs.Common.{ℕ, ◌<◌}
use Rattle.g_graph.specs.declared.op.Origin.TheVariants.{Out}
use Rattle.g_arena_use.specs.UseCells.{IsNamed}
use Rattle.g_arena_use.specs.Lists.{use_in}
use Rattle.g_arena.specs.Stores.{AreKept}
use Rattle.g_arena.proofs.making.name_outputs.Given as goal

abbrev pub invariant-loop-port : goal.invariant-loop-port
invariant-loop-port l = record {
  kept : AreKept l.fn.names l.names;
  named : (q : ℕ) → q < l.port → IsNamed (use_in l.slot.home (Out l.slot.id q)) l.names;
}
