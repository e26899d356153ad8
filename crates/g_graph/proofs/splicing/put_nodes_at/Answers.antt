use Rattle.std.proofs.Common.{◌≡◌, ◌+◌, ◌-◌, ◌++◌, length, take, drop, ap, sym, ◌∙◌, arith, length-append, length-drop}
use Rattle.g_graph.specs.Plain.{nodes_of}
use Rattle.g_graph.specs.Replace.{node_redirected}
use Rattle.g_graph.specs.Splice.{outputs_to_results}
use Rattle.g_graph.proofs.lemmas.Splices.{index_within, nodes_spliced_at, changed_following}
use Rattle.g_graph.proofs.splicing.put_nodes_at.Goals as goal

pub overflow_sub-rest : goal.overflow_sub-rest
overflow_sub-rest c = omega (arith, index_within c.args.at c.args.index c.args.nodes.now.items c.requires, c.args.nodes.now.ok.0)

pub overflow_sub-rest-2 : goal.overflow_sub-rest-2
overflow_sub-rest-2 c = omega (arith, index_within c.args.at c.args.index c.args.nodes.now.items c.requires, c.args.nodes.now.ok.0)

pub exchange-requires : goal.exchange-requires
exchange-requires c = omega (arith, index_within c.args.at c.args.index c.args.nodes.now.items c.requires, c.args.nodes.now.ok.0)

pub returns-clause-ok : goal.returns-clause-ok
returns-clause-ok c =
    let xs = c.args.nodes.now.items in
    let f = node_redirected (outputs_to_results c.args.at c.args.outputs.now) in
    let front = take c.args.index xs ++ c.args.replacement.items in
    let back = drop (c.args.index + 1) xs in
    let within = index_within c.args.at c.args.index xs c.requires in
    let following = c.len-2.result - (c.len.result - c.args.index - 1) in
    let e = c.in_ok-exchange.ensures.ok in
    let left : following + length back ≡ length c.exchange.new.nodes.items =
    omega (arith, within, length-drop (c.args.index + 1) xs, ap length e, length-append front back, c.args.nodes.now.ok.0, c.exchange.new.nodes.ok.0) in
    ap nodes_of (c.redirect_nodes.ensures ∙ changed_following f following c.exchange.new.nodes.items front back e left)
    ∙ sym (nodes_spliced_at c.args.at c.args.index c.args.replacement.items c.args.outputs.now xs c.requires)
