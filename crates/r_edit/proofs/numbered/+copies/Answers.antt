use Rattle.std.proofs.Common.{◌≡◌, ◌++◌, [], ◌∷◌, map, ap, ap₂, sym, ◌∙◌}
use Rattle.std.proofs.lemmas.List.{map_more, take_all}
use Rattle.std.specs.Ordering.{nat_cmp}
use Rattle.std.specs.BTreeMap.{get}
use Rattle.g_graph.specs.Plain.{region, node, nodes_of, regions_of}
use Rattle.g_mean.specs.Copies.{renumbered, region_copied, node_moved, nodes_moved, regions_copied}
use Rattle.r_edit.specs.Numbering.{found_or_same}
use Rattle.r_edit.proofs.Found.{nodes_of-moved, regions_of-copied}
use Rattle.r_edit.proofs.numbered.+copies.Goals as goal

pub copy_node-loop-region-preserved : goal.copy_node-loop-region-preserved
copy_node-loop-region-preserved t c =
    let f = region_copied (found_or_same (get nat_cmp c.args.numbers.now)) in
    c.in_ok-push.ensures.items ∙ ap₂ (λ xs x. xs ++ x ∷ []) c.loop-region.invariant (c.in_ok-copy_region.ensures ∙ ap f c.region-item.is)
    ∙ sym (map_more f c.deref-region-items.result.now c.loop-region.region-index c.region-item.result c.loop-region-test.true)

pub copy_node-returns : goal.copy_node-returns
copy_node-returns t c =
    let to = found_or_same (get nat_cmp c.args.numbers.now) in
    let x = c.node.inside in
    let items = c.deref-region-items.result.now in
    let regions : regions_of c.loop-region.regions.items ≡ regions_copied to (regions_of x.regions.items) =
    ap regions_of (c.loop-region.invariant ∙ ap (map (region_copied to)) (take_all c.loop-region.region-index items c.loop-region-test.false)) ∙ regions_of-copied to items
    ∙ ap (λ rs. regions_copied to (regions_of rs)) c.deref-region-items.ensures.value in
    let inputs : c.in_ok-inputs.inputs.items ≡ map (renumbered to) x.inputs.items = c.in_ok-inputs.ensures ∙ ap (map (renumbered to)) c.as_slice.ensures in
    (λ i. node (c.number_of.ensures i) x.op (inputs i) (regions i)) ∙ ap (node_moved (renumbered to) to) c.node.view_is

pub copy_region-loop-node-preserved : goal.copy_region-loop-node-preserved
copy_region-loop-node-preserved t c =
    let to = found_or_same (get nat_cmp c.args.numbers.now) in
    let f = node_moved (renumbered to) to in
    c.in_ok-push.ensures.items ∙ ap₂ (λ xs x. xs ++ x ∷ []) c.loop-node.invariant (c.in_ok-copy_node.ensures ∙ ap f c.node-item.is)
    ∙ sym (map_more f c.deref-node-items.result.now c.loop-node.node-index c.node-item.result c.loop-node-test.true)

pub copy_region-returns : goal.copy_region-returns
copy_region-returns t c =
    let to = found_or_same (get nat_cmp c.args.numbers.now) in
    let r = c.region.inside in
    let items = c.deref-node-items.result.now in
    let nodes : nodes_of c.loop-node.nodes.items ≡ nodes_moved (renumbered to) to (nodes_of r.nodes.items) =
    ap nodes_of (c.loop-node.invariant ∙ ap (map (node_moved (renumbered to) to)) (take_all c.loop-node.node-index items c.loop-node-test.false))
    ∙ nodes_of-moved (renumbered to) to items ∙ ap (λ ns. nodes_moved (renumbered to) to (nodes_of ns)) c.deref-node-items.ensures.value in
    let args : c.in_ok-args.args.items ≡ r.args.items = c.in_ok-args.ensures.items ∙ c.deref.ensures.value in
    let results : c.in_ok-results.results.items ≡ map (renumbered to) r.results.items = c.in_ok-results.ensures ∙ ap (map (renumbered to)) c.deref-2.ensures.value in
    (λ i. region (args i) (nodes i) (results i)) ∙ ap (region_copied to) c.region.view_is
