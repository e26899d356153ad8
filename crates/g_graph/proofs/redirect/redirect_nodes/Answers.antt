use Rattle.std.proofs.Common.{◌<◌, ◌≤◌, sym, ◌∙◌, length, arith}
use Rattle.g_graph.specs.Replace.{node_redirected}
use Rattle.g_graph.proofs.lemmas.Mapped.{mapped_none, mapped_more, mapped_all}
use Rattle.g_graph.proofs.redirect.redirect_nodes.Goals as goal

pub loop-i-init : goal.loop-i-init
loop-i-init g c = sym (mapped_none (node_redirected (g.R.Redirect.redirected c.args.by.now)) c.args.from c.args.from c.args.nodes.now.items (omega arith))

pub loop-i-preserved : goal.loop-i-preserved
loop-i-preserved g c =
    let f = node_redirected (g.R.Redirect.redirected c.args.by.now) in
    let within : c.loop-i.i < length c.args.nodes.now.items = omega (arith, c.args.nodes.now.ok.0) in
    mapped_more f c.args.from c.loop-i.i c.args.nodes.now.items c.loop-i.nodes.items c.index_mut.result.now c.redirect_node.new.node c.index_mut.result.now
    c.loop-i.invariant (omega arith) within c.index_mut.ensures.value c.redirect_node.ensures

pub returns : goal.returns
returns g c =
    let f = node_redirected (g.R.Redirect.redirected c.args.by.now) in
    let end : length c.args.nodes.now.items ≤ c.loop-i.i = omega (arith, c.args.nodes.now.ok.0) in
    c.loop-i.invariant ∙ mapped_all f c.args.from c.loop-i.i c.args.nodes.now.items end
