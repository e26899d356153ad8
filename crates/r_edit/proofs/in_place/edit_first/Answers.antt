use Rattle.std.proofs.Common.{◌≡◌, sym, ap, ◌∙◌, arith}
use Rattle.std.specs.declared.option.Option.TheVariants.{Some, None}
use Rattle.g_graph.specs.Plain.{nodes_of}
use Rattle.g_graph.specs.Change.{node_index}
use Rattle.g_graph.proofs.lemmas.Splices.{index_within}
use Rattle.r_edit.proofs.lemmas.InPlace.{edited_none, edited_at}
use Rattle.r_edit.proofs.in_place.edit_first.Goals as goal

pub index_mut-requires : goal.index_mut-requires
index_mut-requires g c =
    let index : node_index c.args.id 0 (nodes_of c.args.nodes.now.items) ≡ Some c.in-Some.index =
    ap (λ xs. node_index c.args.id 0 (nodes_of xs)) (sym c.deref.ensures.value) ∙ sym c.in-Some.ensures in
    omega (arith, index_within c.args.id c.in-Some.index c.args.nodes.now.items index, c.args.nodes.now.ok.0)

pub returns-in-Some : goal.returns-in-Some
returns-in-Some g c =
    let index : node_index c.args.id 0 (nodes_of c.args.nodes.now.items) ≡ Some c.in-Some.index =
    ap (λ xs. node_index c.args.id 0 (nodes_of xs)) (sym c.deref.ensures.value) ∙ sym c.in-Some.ensures in
    edited_at c.args.id (g.E.NodeEdit.node_edited c.args.edit.now) c.in-Some.index c.args.nodes.now.items c.index_mut.result.now c.edit_node.new.node c.index_mut.result.now
    index c.index_mut.ensures.value c.edit_node.ensures

pub returns-in-None : goal.returns-in-None
returns-in-None g c =
    let none : node_index c.args.id 0 (nodes_of c.args.nodes.now.items) ≡ None = ap (λ xs. node_index c.args.id 0 (nodes_of xs)) (sym c.deref.ensures.value) ∙ sym c.in-None.ensures in
    sym (edited_none c.args.id (g.E.NodeEdit.node_edited c.args.edit.now) 0 (nodes_of c.args.nodes.now.items) none)
