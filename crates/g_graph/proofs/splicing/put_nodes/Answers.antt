use Rattle.std.proofs.Common.{◌≡◌, sym, ap, ◌∙◌}
use Rattle.std.specs.declared.option.Option.TheVariants.{None}
use Rattle.g_graph.specs.Plain.{nodes_of}
use Rattle.g_graph.specs.Change.{node_index}
use Rattle.g_graph.proofs.lemmas.Splices.{nodes_spliced_none}
use Rattle.g_graph.proofs.splicing.put_nodes.Goals as goal

pub returns-in-None-clause-ok : goal.returns-in-None-clause-ok
returns-in-None-clause-ok c =
    let none : node_index c.args.at 0 (nodes_of c.args.nodes.now.items) ≡ None = ap (λ xs. node_index c.args.at 0 (nodes_of xs)) (sym c.deref.ensures.value) ∙ sym c.in-None.ensures in
    sym (nodes_spliced_none c.args.at 0 (nodes_of c.args.replacement.items) c.args.outputs.now (nodes_of c.args.nodes.now.items) none)
