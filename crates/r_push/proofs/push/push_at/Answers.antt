use Rattle.std.proofs.Common.{◌≡◌, true, List, Some, sym, ap, subst, ◌∙◌, arith}
use Rattle.g_graph.specs.Plain.{NodeTree, nodes_of, regions_of, regions_in}
use Rattle.r_push.specs.Edit.{widened_by, is_loop, all_longer}
use Rattle.r_push.specs.Rule.{can_count}
use Rattle.r_push.proofs.Indexed.{found-index, within-parts, left-some, node-after, nodes-are, pushed-by}
use Rattle.r_push.proofs.push.push_at.Goals as goal

pub index-node-requires : goal.index-node-requires
index-node-requires c = let h = (found-index c.args.values c.args.id c.args.index c.args.nodes.now.items c.requires).bound in omega (arith, h)

pub node_lists-requires : goal.node_lists-requires
node_lists-requires c =
    (within-parts c.args.values c.args.id c.index-node.result.now
    ((found-index c.args.values c.args.id c.args.index c.args.nodes.now.items c.requires).can c.index-node.result.now c.index-node.ensures)).0

pub moved_node-requires : goal.moved_node-requires
moved_node-requires c = left-some c.args.values c.args.id c.args.index c.args.nodes.now.items c.index-node.result.now c.requires c.index-node.ensures

pub insert-requires : goal.insert-requires
insert-requires c = let h = (found-index c.args.values c.args.id c.args.index c.args.nodes.now.items c.requires).bound in omega (arith, h)

pub overflow_add-index : goal.overflow_add-index
overflow_add-index c = let h = (found-index c.args.values c.args.id c.args.index c.args.nodes.now.items c.requires).bound in omega (arith, h)

pub index_mut-requires : goal.index_mut-requires
index_mut-requires c = let h = (found-index c.args.values c.args.id c.args.index c.args.nodes.now.items c.requires).bound in omega (arith, h, c.in_ok-insert.ensures.len)

pub widen-requires-clause-count : goal.widen-requires-clause-count
widen-requires-clause-count c =
    subst (λ (z : NodeTree). can_count z ≡ true)
    (sym (node-after c.args.values c.args.id c.args.index c.args.nodes.now.items c.insert.new.self.items c.in_ok-moved.moved c.index-node.result.now c.index_mut.result.now c.requires
    c.in_ok-insert.ensures.items c.index-node.ensures c.index_mut.ensures.value))
    (within-parts c.args.values c.args.id c.index-node.result.now
    ((found-index c.args.values c.args.id c.args.index c.args.nodes.now.items c.requires).can c.index-node.result.now c.index-node.ensures)).0

pub widen-requires-clause-lists : goal.widen-requires-clause-lists
widen-requires-clause-lists c =
    subst (λ (z : NodeTree). regions_of c.in_ok-lists.lists.items ≡ all_longer (is_loop z) (regions_in z))
    (sym (node-after c.args.values c.args.id c.args.index c.args.nodes.now.items c.insert.new.self.items c.in_ok-moved.moved c.index-node.result.now c.index_mut.result.now c.requires
    c.in_ok-insert.ensures.items c.index-node.ensures c.index_mut.ensures.value)) c.in_ok-lists.ensures

pub returns-clause-ok : goal.returns-clause-ok
returns-clause-ok c =
    pushed-by c.args.values c.args.id c.args.index c.args.nodes.now.items c.index-node.result.now c.in_ok-moved.moved c.widen.new.node c.in_ok-inputs.inputs.items c.requires c.index-node.ensures
    c.in_ok-moved.ensures c.in_ok-inputs.ensures
    (c.widen.ensures
    ∙ ap (widened_by c.args.id c.in_ok-inputs.inputs.items)
    (node-after c.args.values c.args.id c.args.index c.args.nodes.now.items c.insert.new.self.items c.in_ok-moved.moved c.index-node.result.now c.index_mut.result.now c.requires
    c.in_ok-insert.ensures.items c.index-node.ensures c.index_mut.ensures.value))
    ∙ ap (λ (zs : List NodeTree). Some (nodes_of zs)) (nodes-are c.args.index c.args.nodes.now.items c.insert.new.self.items c.in_ok-moved.moved c.widen.new.node c.in_ok-insert.ensures.items)
