use Rattle.std.proofs.Common.{Bool, List, map, ap, ◌∙◌}
use Rattle.g_graph.specs.Plain.{region, nodes_of}
use Rattle.r_edit.specs.Exits.{node_giving}
use Rattle.r_edit.specs.InPlace.{nodes_edited, redirected_after}
use Rattle.r_edit.specs.Carried.{output_carried, staying, exits_carried}
use Rattle.r_edit.proofs.lemmas.InPlace.{carrying_is}
use Rattle.r_edit.proofs.carried.carry_exits.Goals as goal

pub returns : goal.returns
returns c =
    let r = c.region.inside in
    let id = c.args.id in
    let cs = c.args.carried.now in
    let edited = c.edit_first.ensures ∙ ap (λ (ts : List Bool). nodes_edited id (node_giving ts) (nodes_of r.nodes.items)) c.requires in
    c.redirect_carried.ensures
    ∙ (λ i. region r.args.items (redirected_after id (output_carried id cs (c.requires i)) (edited i)) (map (output_carried id cs (c.requires i)) r.results.items))
    ∙ ap (λ ns. region r.args.items ns (map (output_carried id cs (staying cs)) r.results.items)) (carrying_is id cs (nodes_of r.nodes.items)) ∙ ap (exits_carried id cs) c.region.view_is
