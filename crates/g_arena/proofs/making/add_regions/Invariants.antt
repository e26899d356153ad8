-- The regions so far.
use Rattle.std.proofs.Common.{◌≡◌, ◌++◌}
use Rattle.g_arena.specs.Stores.{args_of, lists_of, AreCounted}
use Rattle.g_arena.proofs.making.add_regions.Given as goal

abbrev pub invariant-loop-part : goal.invariant-loop-part
invariant-loop-part l = record {
  args : l.regions.items ≡ args_of l.yielded;
  lists : l.lists.items ≡ l.fn.lists.items ++ lists_of l.node 0 l.yielded;
  counted : AreCounted (args_of l.yielded);
}
