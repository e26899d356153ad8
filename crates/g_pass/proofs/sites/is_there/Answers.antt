use Rattle.std.proofs.Common.{◌≡◌, ◌==◌, true, Some, slice_get, sym, ap, subst, ◌∙◌}
use Rattle.g_graph.specs.Change.{has_node}
use Rattle.g_graph.specs.Plain.{nodes_in, id_of}
use Rattle.g_pass.proofs.Placed.{item_at, node_is_there}
use Rattle.g_pass.proofs.sites.is_there.Goals as goal

pub returns-in-Some : goal.returns-in-Some
returns-in-Some c = λ h.
    let r = c.region.inside in
    let there : slice_get r.nodes.items c.args.index ≡ Some c.in-Some.found.now =
    item_at c.deref.result.now r.nodes.items c.args.index c.in-Some.found.now c.deref.ensures.value c.in-Some.ensures.lookup.3.0 c.in-Some.ensures.lookup.1 in
    subst (λ q. has_node c.args.node (nodes_in q) ≡ true) c.region.view_is
    (node_is_there r.nodes.items c.args.index c.in-Some.found.now c.args.node there (ap (λ y. id_of y == c.args.node) (sym c.found.view_is) ∙ h))
