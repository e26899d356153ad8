use Rattle.std.proofs.Common.{◌≡◌, sym, ap, ◌∙◌, arith}
use Rattle.std.specs.declared.option.Option.TheVariants.{Some, None}
use Rattle.g_graph.specs.Plain.{nodes_of}
use Rattle.g_graph.specs.Change.{node_index}
use Rattle.g_graph.proofs.lemmas.Splices.{index_within}
use Rattle.r_edit.proofs.Gone.{without_none, without_at}
use Rattle.r_edit.proofs.removal.remove_from.Goals as goal

pub remove-requires : goal.remove-requires
remove-requires c =
    let index : node_index c.args.id 0 (nodes_of c.args.nodes.now.items) ≡ Some c.in-Some.index =
    ap (λ xs. node_index c.args.id 0 (nodes_of xs)) (sym c.deref.ensures.value) ∙ sym c.in-Some.ensures in
    omega (arith, index_within c.args.id c.in-Some.index c.args.nodes.now.items index, c.args.nodes.now.ok.0)

pub returns-in-Some : goal.returns-in-Some
returns-in-Some c =
    let index : node_index c.args.id 0 (nodes_of c.args.nodes.now.items) ≡ Some c.in-Some.index =
    ap (λ xs. node_index c.args.id 0 (nodes_of xs)) (sym c.deref.ensures.value) ∙ sym c.in-Some.ensures in
    ap nodes_of c.remove.ensures.by_index.2 ∙ sym (without_at c.args.id c.in-Some.index c.args.nodes.now.items index)

pub returns-in-None : goal.returns-in-None
returns-in-None c =
    let none : node_index c.args.id 0 (nodes_of c.args.nodes.now.items) ≡ None = ap (λ xs. node_index c.args.id 0 (nodes_of xs)) (sym c.deref.ensures.value) ∙ sym c.in-None.ensures in
    sym (without_none c.args.id 0 (nodes_of c.args.nodes.now.items) none)
