use Rattle.std.proofs.Common.{◌≡◌, map, length, ap, ◌∙◌, arith}
use Rattle.std.specs.Vec.{with_items}
use Rattle.std.proofs.lemmas.List.{with_items_is}
use Rattle.g_graph.specs.Plain.{region, nodes_of}
use Rattle.g_graph.specs.Replace.{nodes_redirected, region_redirected}
use Rattle.g_graph.proofs.lemmas.Redirects.{nodes_of-redirected}
use Rattle.g_graph.proofs.redirect.redirect_region.Goals as goal

pub returns : goal.returns
returns g c =
    let f = g.R.Redirect.redirected c.args.by.now in
    let r = c.region.inside in
    let nodes : nodes_of c.redirect_nodes.new.nodes.items ≡ nodes_redirected f (nodes_of r.nodes.items) = ap nodes_of c.redirect_nodes.ensures ∙ nodes_of-redirected f r.nodes.items in
    let size : length c.redirect_origins.new.origins ≡ r.results.len = omega (arith, c.redirect_origins.auto.origins, c.as_mut_slice.ensures.len, r.results.ok.0) in
    let results : (with_items r.results c.redirect_origins.new.origins).items ≡ map f r.results.items =
    with_items_is r.results c.redirect_origins.new.origins size ∙ c.redirect_origins.ensures ∙ ap (map f) c.as_mut_slice.ensures.value in
    (λ i. region r.args.items (nodes i) (results i)) ∙ ap (region_redirected f) c.region.view_is
