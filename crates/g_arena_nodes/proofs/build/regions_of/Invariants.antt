-- What the parts so far are made to.
use Rattle.std.proofs.Common.{◌≡◌}
use Rattle.g_arena_nodes.specs.Made.{regions_made, regions_left}
use Rattle.g_arena_nodes.proofs.build.regions_of.Given as goal

abbrev pub invariant-loop-part : goal.invariant-loop-part
invariant-loop-part l = record {
  made : l.regions.items ≡ regions_made l.node 0 l.yielded l.fn.made.items;
  rest : l.made.items ≡ regions_left l.node 0 l.yielded l.fn.made.items;
}
