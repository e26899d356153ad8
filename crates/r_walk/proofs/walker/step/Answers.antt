-- The parts of a step.
use Rattle.std.proofs.Common.{◌≡◌, ◌==◌, ◌∙◌, ap, subst, if◌then◌else◌, slice_get, unwrap_or}
use Rattle.g_graph.specs.declared.op.Origin.TheVariants.{Out}
use Rattle.g_graph.specs.Count.{saturated, node_values, nodes_values}
use Rattle.g_graph.specs.Plain.{node, id_of, nodes_of, regions_of}
use Rattle.r_walk.specs.Walk.{stepped}
use Rattle.r_walk.specs.Asks.{walking}
use Rattle.r_walk.specs.Moves.{output_in}
use Rattle.r_walk.proofs.Along.{step_made}
use Rattle.r_walk.proofs.walker.step.Goals as goal

pub returns-clause-ok : goal.returns-clause-ok
returns-clause-ok g c =
    let x = c.node.inside in
    let rule = g.R.WalkRule.rule c.args.by.now in
    let w = walking c.args.counts.now.values c.args.counts.now.next c.args.log.now.items in
    let new = nodes_values (nodes_of c.args.new.nodes.items) in
    let old = node_values (node x.id x.op x.inputs.items (regions_of x.regions.items)) in
    let news : c.nodes_values.result ≡ saturated new = c.nodes_values.ensures ∙ ap (λ ns. saturated (nodes_values (nodes_of ns))) c.deref-2.ensures.value in
    let olds : c.node_values-old.result ≡ saturated old = c.node_values-old.ensures ∙ ap (λ rs. saturated (node_values (node x.id x.op x.inputs.items (regions_of rs)))) c.deref.ensures.value in
    record {
      nodes = c.in_ok-append.ensures.items;
      moved = λ n p.
          subst (λ y. output_in c.note.new.self n p ≡ (if n == id_of y then unwrap_or (slice_get c.args.new.outputs.items p) (Out n p) else output_in c.args.tables.now.moves n p)) c.node.view_is
          (c.in_ok-note.ensures n p);
      now_is =
          subst (λ y. walking c.step.new.self.values c.step.new.self.next c.push.new.self.items ≡ stepped rule (id_of y) (node_values y) new c.args.new.taken w) c.node.view_is
          (step_made rule c.rule.result x.id c.args.counts.now.values c.args.counts.now.next c.args.new.taken old new c.node_values-old.result c.nodes_values.result
          c.step.new.self.values c.step.new.self.next c.args.log.now.items c.push.new.self.items news olds c.rule.ensures c.in_ok-step.ensures.values c.in_ok-step.ensures.next
          c.in_ok-step.ensures.counted c.in_ok-step.ensures.fits c.in_ok-push.ensures.items);
    }
