-- What is written, with what is left, makes the whole.
use Rattle.std.proofs.Common.{◌≡◌, drop}
use Rattle.g_graph.specs.Plain.{nodes_of, regions_of}
use Rattle.r_push.specs.Walk.{Cursor, walk_regions}
use Rattle.r_walk.specs.Walks.{HasGained}
use Rattle.r_walk.specs.Context.{joined_regions}
use Rattle.r_push.specs.Walks.{exit_in, walking, IsCursor}
use Rattle.r_push.proofs.Along.{IsAlong}
use Rattle.r_push.proofs.walker.+walk.Given as goal

abbrev pub invariant-walk_nodes-loop-node : goal.invariant-walk_nodes-loop-node
invariant-walk_nodes-loop-node l = record {
  along : (k : Cursor) → IsCursor k l.place l.fn.moves →
      IsAlong (nodes_of l.nodes) k (walking l.fn.values l.fn.outside l.fn.log.items) l.fn.written.items l.written.items l.place l.moves (nodes_of (drop l.node-index l.nodes))
      (walking l.values l.outside l.log.items);
  gained : HasGained l.fn.log.items l.log.items;
}

abbrev pub invariant-walk_regions-loop-region : goal.invariant-walk_regions-loop-region
invariant-walk_regions-loop-region l =
    let t = walk_regions (regions_of (drop l.region-index l.regions)) (exit_in l.exit) (walking l.values l.outside l.log.items) in
    record {
      along : record { regions = joined_regions (regions_of l.made.items) t.regions; now = t.now }
          ≡ walk_regions (regions_of l.regions) (exit_in l.exit) (walking l.fn.values l.fn.outside l.fn.log.items);
      gained : HasGained l.fn.log.items l.log.items;
    }
