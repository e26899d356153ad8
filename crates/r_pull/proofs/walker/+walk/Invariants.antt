-- What is written is what the walk makes of the last nodes, and of the last regions.
use Rattle.std.proofs.Common.{◌≡◌, List, [], drop}
use Rattle.g_graph.specs.declared.op.Origin.{Origin}
use Rattle.g_graph.specs.Plain.{no_regions, nodes_of, regions_of}
use Rattle.r_pull.specs.Walk.{walk_nodes, walk_regions}
use Rattle.r_pull.specs.Behind.{regions_behind, IsWritten}
use Rattle.r_pull.specs.Users.{AreUsers}
use Rattle.r_pull.proofs.walker.+walk.Given as goal
use Rattle.r_walk.specs.Asks.{walking}
use Rattle.r_walk.specs.Walks.{HasGained}

abbrev pub invariant-walk_nodes-loop-i : goal.invariant-walk_nodes-loop-i
invariant-walk_nodes-loop-i l = record {
  along : (results : List Origin) → AreUsers l.fn.kept.users results [] → l.fn.kept.written.items ≡ [] →
      IsWritten results (walk_nodes (nodes_of (drop l.i l.nodes)) results (walking l.fn.counts.values l.fn.counts.next l.fn.log.items)) l.kept.written.items l.kept.users
      (walking l.counts.values l.counts.next l.log.items);
  gained : HasGained l.fn.log.items l.log.items;
}

abbrev pub invariant-walk_regions-loop-i : goal.invariant-walk_regions-loop-i
invariant-walk_regions-loop-i l = record {
  along : record { regions = regions_behind l.made.items no_regions; now = walking l.counts.values l.counts.next l.log.items }
      ≡ walk_regions (regions_of (drop l.i l.regions)) (walking l.fn.counts.values l.fn.counts.next l.fn.log.items);
  gained : HasGained l.fn.log.items l.log.items;
}
