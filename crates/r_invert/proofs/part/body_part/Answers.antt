use Rattle.std.specs.Prelude.{◌-◌}
use Rattle.std.proofs.Common.{List, length, slice_get, sym, ap, ◌∙◌}
use Rattle.std.proofs.lemmas.Result.{IfOk-weaker}
use Rattle.g_graph.specs.Plain.{RegionTree, NodeTree, nodes_in, results_of}
use Rattle.r_invert.specs.Rule.{last_node}
use Rattle.r_invert.proofs.Decides.{last-is}
use Rattle.r_invert.proofs.Remade.{end-made}
use Rattle.r_invert.proofs.part.body_part.Goals as goal

pub made_end-requires : goal.made_end-requires
made_end-requires c =
    (end-made c.args.next c.args.region.now c.in-Some-Some.last.now _ c.in-Some-Some.variables.now c.requires
    (ap (λ (r : RegionTree). last_node (nodes_in r)) (sym c.region.view_is) ∙ last-is c.region.inside.nodes.items c.in-Some-Some.last.now
    (ap (λ (xs : List NodeTree). slice_get xs (length xs - 1)) (sym c.deref.ensures.value) ∙ sym c.in-Some-Some.ensures.value))
    (ap results_of (sym c.region.view_is) ∙ sym c.deref-2.ensures.value ∙ c.in-Some-Some.ensures'.cases.0)).can

pub returns : goal.returns
returns c =
    IfOk-weaker c.made_end.result _ _
    (λ part e. (end-made c.args.next c.args.region.now c.in-Some-Some.last.now _ c.in-Some-Some.variables.now c.requires
    (ap (λ (r : RegionTree). last_node (nodes_in r)) (sym c.region.view_is) ∙ last-is c.region.inside.nodes.items c.in-Some-Some.last.now
    (ap (λ (xs : List NodeTree). slice_get xs (length xs - 1)) (sym c.deref.ensures.value) ∙ sym c.in-Some-Some.ensures.value))
    (ap results_of (sym c.region.view_is) ∙ sym c.deref-2.ensures.value ∙ c.in-Some-Some.ensures'.cases.0)).is ∙ e)
    c.made_end.ensures
