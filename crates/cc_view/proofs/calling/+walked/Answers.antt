use Rattle.std.proofs.Common.{List, ◌+◌, drop, ap, sym, ◌∙◌}
use Rattle.g_graph.specs.Plain.{NodeTree, RegionTree, nodes_of, regions_of}
use Rattle.g_pass_order.specs.Calls.{node_calls, region_calls, nodes_calls, regions_calls}
use Rattle.cc_view.specs.Depths.{greater, most_of}
use Rattle.cc_view.proofs.Lists.{goes_on, drop_next}
use Rattle.cc_view.proofs.calling.+walked.Goals as goal

pub node_most-loop-region-preserved : goal.node_most-loop-region-preserved
node_most-loop-region-preserved t c =
    let depths = c.args.depths.now in
    let most = c.loop-region.most in
    let all = c.deref-region-items.result.now in
    let i = c.loop-region.region-index in
    let r = c.region-item.result in
    let next = drop_next all i r c.loop-region-test.true c.region-item.is in
    goes_on depths most c.region_most-most.result (region_calls r) (regions_calls (regions_of (drop (i + 1) all))) c.region_most-most.ensures
    ∙ (ap (λ (rs : List RegionTree). greater most (most_of depths (regions_calls (regions_of rs)))) (sym next) ∙ c.loop-region.invariant)

pub region_most-loop-node-preserved : goal.region_most-loop-node-preserved
region_most-loop-node-preserved t c =
    let depths = c.args.depths.now in
    let most = c.loop-node.most in
    let all = c.deref-node-items.result.now in
    let i = c.loop-node.node-index in
    let x = c.node-item.result in
    let next = drop_next all i x c.loop-node-test.true c.node-item.is in
    goes_on depths most c.node_most-most.result (node_calls x) (nodes_calls (nodes_of (drop (i + 1) all))) c.node_most-most.ensures
    ∙ (ap (λ (ns : List NodeTree). greater most (most_of depths (nodes_calls (nodes_of ns)))) (sym next) ∙ c.loop-node.invariant)
