use Rattle.std.proofs.Common.{◌-◌, List, length, slice_get, sym, ap, ◌∙◌}
use Rattle.g_graph.specs.Plain.{RegionTree, NodeTree, nodes_in}
use Rattle.r_invert.specs.Rule.{last_node}
use Rattle.r_invert.proofs.Decides.{ends-decide, last-is}
use Rattle.r_invert.proofs.room.may_invert.Goals as goal

pub returns-in-Some : goal.returns-in-Some
returns-in-Some c =
    c.ends_so.ensures ∙ ends-decide c.args.values c.args.next c.args.region.now c.in-Some.last.now
    (ap (λ (r : RegionTree). last_node (nodes_in r)) (sym c.region.view_is) ∙ last-is c.region.inside.nodes.items c.in-Some.last.now
    (ap (λ (xs : List NodeTree). slice_get xs (length xs - 1)) (sym c.deref.ensures.value) ∙ sym c.in-Some.ensures.value))
