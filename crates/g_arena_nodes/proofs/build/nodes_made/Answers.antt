-- One row more is made a node.
use Rattle.std.proofs.Common.{arith}
use Rattle.g_arena_nodes.proofs.StepLemmas.{row_more, size_more}
use Rattle.g_arena_nodes.proofs.build.nodes_made.Goals as goal

pub loop-row-preserved : goal.loop-row-preserved
loop-row-preserved g c = record {
  made =
      row_more c.loop-row.rows.items c.pop.new.self.items c.in-Some.row c.loop-row.made.items c.node_of.new.made.items c.push_front.new.self.items c.home_of-home.result c.in_ok-node.node _
      c.loop-row.invariant.made c.in-Some.ensures.items c.home_of-home.ensures c.in_ok-node.ensures.node c.in_ok-node.ensures.left c.in_ok-push_front.ensures.items;
  looks = size_more c.loop-row.rows.items c.pop.new.self.items c.in-Some.row c.loop-row.looks c.look_at_row.new.looks _ c.loop-row.invariant.looks c.in-Some.ensures.items c.look_at_row.ensures;
}

pub returns-in_err-node-clause-looks : goal.returns-in_err-node-clause-looks
returns-in_err-node-clause-looks g c =
    omega (arith, size_more c.loop-row.rows.items c.pop.new.self.items c.in-Some.row c.loop-row.looks c.look_at_row.new.looks _ c.loop-row.invariant.looks c.in-Some.ensures.items c.look_at_row.ensures)

pub returns-in_err-push_front-clause-looks : goal.returns-in_err-push_front-clause-looks
returns-in_err-push_front-clause-looks g c =
    omega (arith, size_more c.loop-row.rows.items c.pop.new.self.items c.in-Some.row c.loop-row.looks c.look_at_row.new.looks _ c.loop-row.invariant.looks c.in-Some.ensures.items c.look_at_row.ensures)
