-- Each node and region that is walked is one more of those that are written.
use Rattle.std.proofs.Common.{◌≡◌, ◌+◌, ◌-◌, List, ◌∷◌, [], length, drop, drop_of_length-le, ap, ap₂, sym, subst, ◌∙◌, arith}
use Rattle.std.proofs.lemmas.List.{append-nil, drop_more}
use Rattle.std.specs.Prelude.{OnOk}
use Rattle.g_graph.specs.declared.op.Origin.{Origin}
use Rattle.g_graph.specs.Plain.{region, node, no_nodes, no_regions, args_of, results_of, id_of, op_of, inputs_in, nodes_of, regions_of}
use Rattle.r_pull.specs.Walk.{put_where, walk_node, walk_nodes, walk_region, walk_regions}
use Rattle.r_pull.specs.Behind.{behind, nodes_behind, regions_behind, IsWritten}
use Rattle.r_pull.specs.Users.{AreUsers}
use Rattle.r_pull.proofs.Loops.{nothing_written, next_node, next_region, node_walked, region_walked, gained_more, on_ok, on_value}
use Rattle.r_pull.proofs.walker.+walk.Goals as goal
use Rattle.r_walk.specs.Asks.{walking}

pub walk_nodes-loop-i-init : goal.walk_nodes-loop-i-init
walk_nodes-loop-i-init t c =
    let items = c.args.nodes.now in
    let start = walking c.args.counts.now.values c.args.counts.now.next c.args.log.now.items in
    let none : drop (length items) items ≡ [] = drop_of_length-le items (omega arith) in
    record {
      along = λ results are empty.
          subst (λ ns. IsWritten results (walk_nodes (nodes_of ns) results start) c.args.kept.now.written.items c.args.kept.now.users start) (sym none)
          (nothing_written results c.args.kept.now.written.items c.args.kept.now.users start are empty);
      gained = ([], sym (append-nil c.args.log.now.items));
    }

pub walk_nodes-loop-i-preserved : goal.walk_nodes-loop-i-preserved
walk_nodes-loop-i-preserved t c =
    let items = c.args.nodes.now in
    let i = c.loop-i.i in
    let x = c.index-nodes-i.result in
    let start = walking c.args.counts.now.values c.args.counts.now.next c.args.log.now.items in
    let now = walking c.loop-i.counts.values c.loop-i.counts.next c.loop-i.log.items in
    let then = walking c.walk_node.new.counts.values c.walk_node.new.counts.next c.walk_node.new.log.items in
    let one : (i - 1) + 1 ≡ i = omega (arith, c.loop-i-test.true) in
    let more : drop (i - 1) items ≡ x ∷ drop i items =
    drop_more items (i - 1) x (omega (arith, c.loop-i-test.true, c.loop-i.auto.i)) ∙ ap₂ (λ y k. y ∷ drop k items) (sym c.index-nodes-i.is) one in
    record {
      along = λ results are empty.
          subst (λ ns. IsWritten results (walk_nodes (nodes_of ns) results start) c.walk_node.new.kept.written.items c.walk_node.new.kept.users then) (sym more)
          (next_node results x (nodes_of (drop i items)) start c.loop-i.kept.written.items c.walk_node.new.kept.written.items c.loop-i.kept.users c.walk_node.new.kept.users now then
          (c.loop-i.invariant.along results are empty) c.in_ok-walk_node.ensures.ok);
      gained = gained_more c.args.log.now.items c.loop-i.log.items c.walk_node.new.log.items c.loop-i.invariant.gained c.in_ok-walk_node.ensures.gained;
    }

pub walk_nodes-returns-clause-ok : goal.walk_nodes-returns-clause-ok
walk_nodes-returns-clause-ok t c = λ results are empty.
    let start = walking c.args.counts.now.values c.args.counts.now.next c.args.log.now.items in
    let now = walking c.loop-i.counts.values c.loop-i.counts.next c.loop-i.log.items in
    let none : c.loop-i.i ≡ 0 = omega (arith, c.loop-i-test.false) in
    subst (λ k. IsWritten results (walk_nodes (nodes_of (drop k c.args.nodes.now)) results start) c.loop-i.kept.written.items c.loop-i.kept.users now) none (c.loop-i.invariant.along results are empty)

pub walk_regions-loop-i-init : goal.walk_regions-loop-i-init
walk_regions-loop-i-init t c =
    let items = c.args.regions.now in
    let start = walking c.args.counts.now.values c.args.counts.now.next c.args.log.now.items in
    let none : drop (length items) items ≡ [] = drop_of_length-le items (omega arith) in
    record {
      along = ap (λ made. record { regions = regions_behind made no_regions; now = start }) c.in_ok-made.ensures.items ∙ ap (λ rs. walk_regions (regions_of rs) start) (sym none);
      gained = ([], sym (append-nil c.args.log.now.items));
    }

pub walk_regions-loop-i-preserved : goal.walk_regions-loop-i-preserved
walk_regions-loop-i-preserved t c =
    let items = c.args.regions.now in
    let i = c.loop-i.i in
    let r = c.index-regions-i.result in
    let start = walking c.args.counts.now.values c.args.counts.now.next c.args.log.now.items in
    let now = walking c.loop-i.counts.values c.loop-i.counts.next c.loop-i.log.items in
    let then = walking c.walk_region.new.counts.values c.walk_region.new.counts.next c.walk_region.new.log.items in
    let one : (i - 1) + 1 ≡ i = omega (arith, c.loop-i-test.true) in
    let more : drop (i - 1) items ≡ r ∷ drop i items =
    drop_more items (i - 1) r (omega (arith, c.loop-i-test.true, c.loop-i.auto.i)) ∙ ap₂ (λ y k. y ∷ drop k items) (sym c.index-regions-i.is) one in
    record {
      along = ap (λ made. record { regions = regions_behind made no_regions; now = then }) c.in_ok-push.ensures.items
          ∙ next_region r c.in_ok-walk_region.field-0 (regions_of (drop i items)) start now then c.loop-i.made.items c.loop-i.invariant.along c.in_ok-walk_region.ensures.ok
          ∙ ap (λ rs. walk_regions (regions_of rs) start) (sym more);
      gained = gained_more c.args.log.now.items c.loop-i.log.items c.walk_region.new.log.items c.loop-i.invariant.gained c.in_ok-walk_region.ensures.gained;
    }

pub walk_regions-returns-clause-ok : goal.walk_regions-returns-clause-ok
walk_regions-returns-clause-ok t c =
    let items = c.args.regions.now in
    let start = walking c.args.counts.now.values c.args.counts.now.next c.args.log.now.items in
    let now = walking c.loop-i.counts.values c.loop-i.counts.next c.loop-i.log.items in
    let none : c.loop-i.i ≡ 0 = omega (arith, c.loop-i-test.false) in
    ap (λ rs. record { regions = rs; now = now }) c.in_order.ensures ∙ c.loop-i.invariant.along ∙ ap (λ k. walk_regions (regions_of (drop k items)) start) none

pub walk_region-returns-in-Ok-clause-ok : goal.walk_region-returns-in-Ok-clause-ok
walk_region-returns-in-Ok-clause-ok t c =
    let r = c.region.inside in
    let nodes = nodes_of r.nodes.items in
    let results = r.results.items in
    let kept = c.in_ok-kept.kept.value in
    let given = c.deref_mut.result.now in
    let users = c.walk_nodes.new.kept.users in
    let written = c.walk_nodes.new.kept.written.items in
    let start = walking c.args.counts.now.values c.args.counts.now.next c.args.log.now.items in
    let now = walking c.walk_nodes.new.counts.values c.walk_nodes.new.counts.next c.walk_nodes.new.log.items in
    let are : AreUsers given.users results [] =
    subst (λ b. AreUsers b.users results []) (sym c.deref_mut.ensures.value) (subst (λ y. AreUsers kept.users (results_of y) []) (sym c.region.view_is) c.in_ok-kept.ensures.users) in
    let empty : given.written.items ≡ [] = ap (λ b. b.written.items) c.deref_mut.ensures.value ∙ c.in_ok-kept.ensures.written in
    let walked : IsWritten results (walk_nodes nodes results start) written users now =
    subst (λ ns. IsWritten results (walk_nodes (nodes_of ns) results start) written users now) c.deref.ensures.value
    (subst (λ made. OnOk made ((os : List Origin) → AreUsers given.users os [] → given.written.items ≡ [] → IsWritten os (walk_nodes (nodes_of c.deref.result.now) os start) written users now)) c.in-Ok.is
    c.walk_nodes.ensures.ok results are empty) in
    on_value c.end.result _ _
    (λ made is.
    ap (λ y. record { region = y; now = now }) (is ∙ ap (λ y. region (args_of y) (nodes_behind written no_nodes) (results_of y)) (sym c.region.view_is))
    ∙ region_walked r.args.items nodes (nodes_behind written no_nodes) results start now walked.is ∙ ap (λ y. walk_region y start) c.region.view_is)
    c.end.ensures

pub walk_node-returns-clause-ok : goal.walk_node-returns-clause-ok
walk_node-returns-clause-ok t c =
    let x = c.node.inside in
    let ws = c.args.kept.now.written.items in
    let new = c.put_with.new.kept in
    let start = walking c.args.counts.now.values c.args.counts.now.next c.args.log.now.items in
    let now = walking c.walk_regions.new.counts.values c.walk_regions.new.counts.next c.walk_regions.new.log.items in
    let then = walking c.put_with.new.counts.values c.put_with.new.counts.next c.put_with.new.log.items in
    let made = regions_of c.in_ok-regions.regions.items in
    let walked : record { regions = made; now = now } ≡ walk_regions (regions_of x.regions.items) start =
    c.in_ok-regions.ensures.ok ∙ ap (λ rs. walk_regions (regions_of rs) start) c.deref.ensures.value in
    on_ok c.put_with.result _ _
    (λ h results are.
    subst (λ y. IsWritten results (walk_node y results (behind ws start)) new.written.items new.users then) c.node.view_is
    (subst (λ s. IsWritten results s new.written.items new.users then) (node_walked x.id x.op x.inputs.items (regions_of x.regions.items) made results ws start now walked)
    (subst (λ y. IsWritten results (put_where (node (id_of y) (op_of y) (inputs_in y) made) results (behind ws now)) new.written.items new.users then) (sym c.node.view_is) (h results are))))
    c.put_with.ensures.ok
