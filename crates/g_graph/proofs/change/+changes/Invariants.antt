use Rattle.std.proofs.Common.{◌≡◌, take}
use Rattle.std.specs.declared.option.Option.TheVariants.{None}
use Rattle.g_graph.specs.Plain.{nodes_of, regions_of}
use Rattle.g_graph.specs.Change.{nodes_changed, regions_changed}
use Rattle.g_graph.proofs.change.+changes.Given as goal

abbrev pub invariant-change_nodes-loop-i : goal.invariant-change_nodes-loop-i
invariant-change_nodes-loop-i g l = record {
  unvisited : goal.unvisited-change_nodes-loop-i g l;
  same : l.nodes.items ≡ l.initial.nodes.items;
  same_change : l.change ≡ l.initial.change;
  none : nodes_changed (g.C.Change.changed l.initial.change) (nodes_of (take l.i l.initial.nodes.items)) ≡ None;
}

abbrev pub invariant-change_regions-loop-i : goal.invariant-change_regions-loop-i
invariant-change_regions-loop-i g l = record {
  unvisited : goal.unvisited-change_regions-loop-i g l;
  same : l.regions.items ≡ l.initial.regions.items;
  same_change : l.change ≡ l.initial.change;
  none : regions_changed (g.C.Change.changed l.initial.change) (regions_of (take l.i l.initial.regions.items)) ≡ None;
}
