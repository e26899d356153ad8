-- What is written, with what is left, makes the whole.
use Rattle.std.proofs.Common.{◌≡◌, drop}
use Rattle.g_graph.specs.Plain.{nodes_of, regions_of}
use Rattle.g_mean.specs.Copies.{AllClosed}
use Rattle.r_walk.specs.Context.{joined_regions}
use Rattle.r_walk.specs.Walk.{Cursor, walk_regions}
use Rattle.r_walk.specs.Asks.{walking, AllSound, AreSoundNodes, AreInnerClosed}
use Rattle.r_walk.specs.Walks.{IsCursor, HasGained}
use Rattle.r_walk.proofs.Along.{IsAlong}
use Rattle.r_walk.proofs.walker.+walk.Given as goal

abbrev pub invariant-walk_nodes-loop-node : goal.invariant-walk_nodes-loop-node
invariant-walk_nodes-loop-node g l = record {
  along : (k : Cursor) → IsCursor (g.R.WalkRule.looks l.by) k l.inputs l.fn.tables.moves l.fn.tables.words l.uses →
      IsAlong (g.R.WalkRule.looks l.by) (g.R.WalkRule.rule l.by) (g.R.WalkRule.asked l.by) (nodes_of l.nodes) k (walking l.fn.counts.values l.fn.counts.next l.fn.log.items) l.fn.written.items
      l.written.items l.inputs l.tables.moves l.tables.words l.uses (nodes_of (drop l.node-index l.nodes)) (walking l.counts.values l.counts.next l.log.items);
  gained : HasGained l.fn.log.items l.log.items;
  closed : AreInnerClosed (nodes_of (drop l.node-index l.nodes));
  sound : AreSoundNodes (nodes_of (drop l.node-index l.nodes));
}

abbrev pub invariant-walk_regions-loop-region : goal.invariant-walk_regions-loop-region
invariant-walk_regions-loop-region g l =
    let t = walk_regions (g.R.WalkRule.rule l.by) (g.R.WalkRule.asked l.by) (regions_of (drop l.region-index l.regions)) (walking l.counts.values l.counts.next l.log.items) in
    record {
      along : record { regions = joined_regions (regions_of l.made.items) t.regions; now = t.now }
          ≡ walk_regions (g.R.WalkRule.rule l.by) (g.R.WalkRule.asked l.by) (regions_of l.regions) (walking l.fn.counts.values l.fn.counts.next l.fn.log.items);
      gained : HasGained l.fn.log.items l.log.items;
      closed : AllClosed (regions_of (drop l.region-index l.regions));
      sound : AllSound (regions_of (drop l.region-index l.regions));
    }
