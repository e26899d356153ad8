use Rattle.std.proofs.Common.{◌≡◌, Some, slice_get, sym, ap}
use Rattle.g_graph.specs.Plain.{nodes_in, regions_in}
use Rattle.g_pass.proofs.Placed.{item_at, region_is_placed}
use Rattle.g_pass.proofs.sites.region_of.Goals as goal

pub returns : goal.returns
returns c = λ body placed.
    let r = c.region.inside in
    let x = c.found.inside in
    let there : slice_get r.nodes.items c.args.node ≡ Some c.in_ok-found.found.now =
    item_at c.deref.result.now r.nodes.items c.args.node c.in_ok-found.found.now c.deref.ensures.value c.in_ok-found.ensures.lookup.3.0 c.in_ok-found.ensures.lookup.1 in
    let inner : slice_get x.regions.items c.args.place ≡ Some c.in_ok-inner.inner.now =
    item_at c.deref-2.result.now x.regions.items c.args.place c.in_ok-inner.inner.now c.deref-2.ensures.value c.in_ok-inner.ensures.lookup.3.0 c.in_ok-inner.ensures.lookup.1 in
    region_is_placed c.args.region.now body r.nodes.items c.args.node c.in_ok-found.found.now x.regions.items c.args.place c.in_ok-inner.inner.now
    (sym (ap nodes_in c.region.view_is)) there (sym (ap regions_in c.found.view_is)) inner placed
