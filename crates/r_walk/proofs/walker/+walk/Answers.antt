-- Each node and region that is walked goes on with the whole.
use Rattle.std.proofs.Common.{◌≡◌, ◌+◌, ◌∷◌, ◌++◌, [], map, drop, slice_get, drop_of_length-le, rules, refl, ap, ap₂, sym, subst, ◌∙◌}
use Rattle.std.proofs.lemmas.List.{append-nil, drop_more}
use Rattle.std.proofs.lemmas.Option.{slice_get_past}
use Rattle.std.specs.Prelude.{OnOk}
use Rattle.std.specs.declared.option.Option.TheVariants.{Some, None}
use Rattle.g_graph.specs.Count.{saturated, node_values, nodes_values}
use Rattle.g_graph.specs.Plain.{node, region, args_of, region_then, node_then, no_nodes, id_of, inputs_in, regions_in, nodes_in, results_of, nodes_of, regions_of}
use Rattle.g_graph.specs.Splice.{joined_nodes}
use Rattle.g_mean.specs.Copies.{IsClosed, AllClosed}
use Rattle.r_walk.specs.Context.{joined_regions}
use Rattle.r_walk.specs.Walk.{Cursor, cursor_in, inputs_of_nodes, results_used, stepped, walk_node, walk_nodes, walk_region, walk_regions, open_at}
use Rattle.r_walk.specs.Around.{AreWords, AreUses}
use Rattle.r_walk.specs.Asks.{said_of, walking, IsSound, AllSound, AreSoundNodes, AreInnerClosed}
use Rattle.r_walk.specs.Moves.{origin_in}
use Rattle.r_walk.specs.Walks.{IsCursor, IsWalked, HasStepped}
use Rattle.r_walk.proofs.Along.{region_inner, IsAlong, begin, begins, goes_on, ends, region_written, joined_more, joined_none, gained_more, gained_step, found_at, closed_at, sound_at, nodes_smaller, inner_smaller, stays_walked, step_walked, open_walked, none_walked, inner_cursor, region_walked, on_ok, on_value, on_both, on_all, step_made}
use Rattle.r_walk.proofs.Sound.{region_nodes}
use Rattle.r_walk.proofs.walker.+walk.Goals as goal

pub walk_nodes-loop-node-init : goal.walk_nodes-loop-node-init
walk_nodes-loop-node-init g t c = record {
  along = λ k is.
      begins (g.R.WalkRule.looks c.args.by.now) (g.R.WalkRule.rule c.args.by.now) (g.R.WalkRule.asked c.args.by.now) (nodes_of c.args.nodes.now) k
      (walking c.args.counts.now.values c.args.counts.now.next c.args.log.now.items) c.args.written.now.items c.args.inputs.now c.args.tables.now.moves c.args.tables.now.words c.args.uses.now is;
  gained = ([], sym (append-nil c.args.log.now.items));
  closed = c.requires.closed;
  sound = c.requires.sound;
}

pub walk_nodes-loop-node-preserved : goal.walk_nodes-loop-node-preserved
walk_nodes-loop-node-preserved g t c =
    let looks = g.R.WalkRule.looks c.args.by.now in
    let rule = g.R.WalkRule.rule c.args.by.now in
    let ask = g.R.WalkRule.asked c.args.by.now in
    let items = c.args.nodes.now in
    let i = c.loop-node.node-index in
    let x = c.node-item.result in
    let start = walking c.args.counts.now.values c.args.counts.now.next c.args.log.now.items in
    let now = walking c.loop-node.counts.values c.loop-node.counts.next c.loop-node.log.items in
    let then = walking c.walk_node.new.counts.values c.walk_node.new.counts.next c.walk_node.new.log.items in
    let more : drop i items ≡ x ∷ drop (i + 1) items = drop_more items i x c.loop-node-test.true ∙ ap (λ y. y ∷ drop (i + 1) items) (sym c.node-item.is) in
    record {
      along = λ k is.
          goes_on looks rule ask (nodes_of items) k start c.args.written.now.items c.loop-node.written.items c.walk_node.new.written.items c.args.inputs.now c.loop-node.tables.moves c.walk_node.new.tables.moves
          c.loop-node.tables.words c.walk_node.new.tables.words c.args.uses.now x (nodes_of (drop (i + 1) items)) now then
          (subst (λ ns. IsAlong looks rule ask (nodes_of items) k start c.args.written.now.items c.loop-node.written.items c.args.inputs.now c.loop-node.tables.moves c.loop-node.tables.words c.args.uses.now (nodes_of ns) now)
          more (c.loop-node.invariant.along k is))
          c.in_ok-walk_node.ensures.ok;
      gained = gained_more c.args.log.now.items c.loop-node.log.items c.walk_node.new.log.items c.loop-node.invariant.gained c.in_ok-walk_node.ensures.gained;
      closed = (subst (λ ns. AreInnerClosed (nodes_of ns)) more c.loop-node.invariant.closed).1;
      sound = (subst (λ ns. AreSoundNodes (nodes_of ns)) more c.loop-node.invariant.sound).1;
    }

pub walk_nodes-returns-clause-ok : goal.walk_nodes-returns-clause-ok
walk_nodes-returns-clause-ok g t c = λ k is.
    let looks = g.R.WalkRule.looks c.args.by.now in
    let rule = g.R.WalkRule.rule c.args.by.now in
    let ask = g.R.WalkRule.asked c.args.by.now in
    let items = c.args.nodes.now in
    let start = walking c.args.counts.now.values c.args.counts.now.next c.args.log.now.items in
    let now = walking c.loop-node.counts.values c.loop-node.counts.next c.loop-node.log.items in
    ends looks rule ask (nodes_of items) k start c.args.written.now.items c.loop-node.written.items c.args.inputs.now c.loop-node.tables.moves c.loop-node.tables.words c.args.uses.now now
    (subst (λ ns. IsAlong looks rule ask (nodes_of items) k start c.args.written.now.items c.loop-node.written.items c.args.inputs.now c.loop-node.tables.moves c.loop-node.tables.words c.args.uses.now (nodes_of ns) now)
    (drop_of_length-le items c.loop-node-test.false) (c.loop-node.invariant.along k is))

pub walk_regions-loop-region-init : goal.walk_regions-loop-region-init
walk_regions-loop-region-init g t c =
    let rule = g.R.WalkRule.rule c.args.by.now in
    let ask = g.R.WalkRule.asked c.args.by.now in
    let r = walk_regions rule ask (regions_of c.args.regions.now) (walking c.args.counts.now.values c.args.counts.now.next c.args.log.now.items) in
    record {
      along = ap (λ made. record { regions = joined_regions (regions_of made) r.regions; now = r.now }) c.in_ok-made.ensures.items;
      gained = ([], sym (append-nil c.args.log.now.items));
      closed = c.requires.closed;
      sound = c.requires.sound;
    }

pub walk_regions-loop-region-preserved : goal.walk_regions-loop-region-preserved
walk_regions-loop-region-preserved g t c =
    let rule = g.R.WalkRule.rule c.args.by.now in
    let ask = g.R.WalkRule.asked c.args.by.now in
    let items = c.args.regions.now in
    let i = c.loop-region.region-index in
    let x = c.region-item.result in
    let w = walking c.loop-region.counts.values c.loop-region.counts.next c.loop-region.log.items in
    let v = walking c.walk_region.new.counts.values c.walk_region.new.counts.next c.walk_region.new.log.items in
    let s = walk_region rule ask x w in
    let t = walk_regions rule ask (regions_of (drop (i + 1) items)) in
    let more : drop i items ≡ x ∷ drop (i + 1) items = drop_more items i x c.loop-region-test.true ∙ ap (λ y. y ∷ drop (i + 1) items) (sym c.region-item.is) in
    let one : record { region = c.in_ok-walk_region.field-0; now = v } ≡ s = c.in_ok-walk_region.ensures.ok in
    record {
      along =
          ap₂ (λ ms u. record { regions = joined_regions (regions_of ms) (t u).regions; now = (t u).now }) c.in_ok-push.ensures.items (ap (λ z. z.now) one)
          ∙ ap (λ rs. record { regions = rs; now = (t s.now).now })
          (joined_more c.loop-region.made.items c.in_ok-walk_region.field-0 (t s.now).regions
          ∙ ap (λ z. joined_regions (regions_of c.loop-region.made.items) (region_then z.region (t s.now).regions)) one)
          ∙ ap (λ rs. record { regions = joined_regions (regions_of c.loop-region.made.items) (walk_regions rule ask (regions_of rs) w).regions; now = (walk_regions rule ask (regions_of rs) w).now }) (sym more)
          ∙ c.loop-region.invariant.along;
      gained = gained_more c.args.log.now.items c.loop-region.log.items c.walk_region.new.log.items c.loop-region.invariant.gained c.in_ok-walk_region.ensures.gained;
      closed = (subst (λ rs. AllClosed (regions_of rs)) more c.loop-region.invariant.closed).1;
      sound = (subst (λ rs. AllSound (regions_of rs)) more c.loop-region.invariant.sound).1;
    }

pub walk_regions-returns-clause-ok : goal.walk_regions-returns-clause-ok
walk_regions-returns-clause-ok g t c =
    let rule = g.R.WalkRule.rule c.args.by.now in
    let ask = g.R.WalkRule.asked c.args.by.now in
    let w = walking c.loop-region.counts.values c.loop-region.counts.next c.loop-region.log.items in
    let made = regions_of c.loop-region.made.items in
    ap (λ rs. record { regions = rs; now = w }) (sym (joined_none made))
    ∙ ap (λ rs. record { regions = joined_regions made (walk_regions rule ask (regions_of rs) w).regions; now = (walk_regions rule ask (regions_of rs) w).now })
    (sym (drop_of_length-le c.args.regions.now c.loop-region-test.false))
    ∙ c.loop-region.invariant.along

pub walk_node-returns-in-Becomes-clause-ok : goal.walk_node-returns-in-Becomes-clause-ok
walk_node-returns-in-Becomes-clause-ok g t c =
    let looks = g.R.WalkRule.looks c.args.by.now in
    let rule = g.R.WalkRule.rule c.args.by.now in
    let ask = g.R.WalkRule.asked c.args.by.now in
    let x = c.node.inside in
    let w = walking c.args.counts.now.values c.args.counts.now.next c.args.log.now.items in
    let now = walking c.step.new.counts.values c.step.new.counts.next c.step.new.log.items in
    let ins : c.in_ok-reads.reads.items ≡ map (origin_in c.args.tables.now.moves c.args.inputs.now) x.inputs.items =
    c.in_ok-reads.ensures ∙ ap (λ y. map (origin_in c.args.tables.now.moves c.args.inputs.now) (inputs_in y)) (sym c.node.view_is) in
    on_both c.step.result _ _ _
    (λ h noted k is.
    subst (λ y. IsWalked looks k (walk_node rule ask y k w) c.args.written.now.items c.step.new.written.items c.step.new.tables.moves c.step.new.tables.words now) c.node.view_is
    (step_walked looks rule ask x.id x.op x.inputs.items (regions_of x.regions.items) k c.args.inputs.now c.args.tables.now.moves c.args.tables.now.words c.args.uses.now w is c.in-Becomes.new
    c.args.written.now.items c.step.new.written.items c.step.new.tables.moves c.step.new.tables.words now
    (λ before os around. ap said_of (sym c.in-Becomes.is) ∙ c.in_ok-said.ensures before os around
    ∙ ap₂ (λ os' ss. ask w.values w.next before os (node x.id x.op os' (regions_of ss))) (c.as_slice.ensures ∙ ins) c.deref.ensures.value)
    (subst (λ y. HasStepped rule y c.in-Becomes.new c.args.written.now.items c.step.new.written.items c.args.tables.now.moves c.step.new.tables.moves w now) (sym c.node.view_is) h)
    noted))
    c.step.ensures.ok c.step.ensures.words

pub walk_node-returns-in-Opened-clause-ok : goal.walk_node-returns-in-Opened-clause-ok
walk_node-returns-in-Opened-clause-ok g t c =
    let looks = g.R.WalkRule.looks c.args.by.now in
    let rule = g.R.WalkRule.rule c.args.by.now in
    let ask = g.R.WalkRule.asked c.args.by.now in
    let x = c.node.inside in
    let it = c.in-Opened.opening in
    let w = walking c.args.counts.now.values c.args.counts.now.next c.args.log.now.items in
    let now = walking c.open.new.counts.values c.open.new.counts.next c.open.new.log.items in
    let ins : c.in_ok-reads.reads.items ≡ map (origin_in c.args.tables.now.moves c.args.inputs.now) x.inputs.items =
    c.in_ok-reads.ensures ∙ ap (λ y. map (origin_in c.args.tables.now.moves c.args.inputs.now) (inputs_in y)) (sym c.node.view_is) in
    on_ok c.open.result _ _
    (λ h k is.
    subst (λ y. IsWalked looks k (walk_node rule ask y k w) c.args.written.now.items c.open.new.written.items c.open.new.tables.moves c.open.new.tables.words now) c.node.view_is
    (open_walked looks rule ask x.id x.op x.inputs.items (regions_of x.regions.items) k c.args.inputs.now c.args.tables.now.moves c.args.tables.now.words c.args.uses.now w is it
    c.args.written.now.items c.open.new.written.items c.open.new.tables.moves c.open.new.tables.words now
    (λ before os around. ap said_of (sym c.in-Opened.is) ∙ c.in_ok-said.ensures before os around
    ∙ ap₂ (λ os' ss. ask w.values w.next before os (node x.id x.op os' (regions_of ss))) (c.as_slice.ensures ∙ ins) c.deref.ensures.value)
    (subst (λ y. IsWalked looks k (open_at rule ask (regions_in y) (id_of y) (node_values y) it.which it.inputs.items it.from k w) c.args.written.now.items c.open.new.written.items c.open.new.tables.moves
    c.open.new.tables.words now) (sym c.node.view_is) (h k c.args.inputs.now is))))
    c.open.ensures.ok

pub walk_node-returns-in_ok-regions-in-Stays-clause-ok : goal.walk_node-returns-in_ok-regions-in-Stays-clause-ok
walk_node-returns-in_ok-regions-in-Stays-clause-ok g t c =
    let looks = g.R.WalkRule.looks c.args.by.now in
    let rule = g.R.WalkRule.rule c.args.by.now in
    let ask = g.R.WalkRule.asked c.args.by.now in
    let x = c.node.inside in
    let new = regions_of c.in_ok-regions-in-Stays.regions.items in
    let written = c.args.written.now.items in
    let w = walking c.args.counts.now.values c.args.counts.now.next c.args.log.now.items in
    let now = walking c.walk_regions.new.counts.values c.walk_regions.new.counts.next c.walk_regions.new.log.items in
    let reads = map (origin_in c.args.tables.now.moves c.args.inputs.now) x.inputs.items in
    let ins : c.in_ok-reads.reads.items ≡ reads =
    c.in_ok-reads.ensures ∙ ap (λ y. map (origin_in c.args.tables.now.moves c.args.inputs.now) (inputs_in y)) (sym c.node.view_is) in
    let walked : record { regions = new; now = now } ≡ walk_regions rule ask (regions_of x.regions.items) w =
    c.in_ok-regions-in-Stays.ensures.ok ∙ ap (λ rs. walk_regions rule ask (regions_of rs) w) c.deref-in-Stays.ensures.value in
    on_all c.write.result _ _ _ _
    (λ nodes moves noted k is.
    subst (λ y. IsWalked looks k (walk_node rule ask y k w) written c.write.new.written.items c.write.new.tables.moves c.write.new.tables.words now) c.node.view_is
    (subst (λ m. IsWalked looks k (walk_node rule ask (node x.id x.op x.inputs.items (regions_of x.regions.items)) k w) written c.write.new.written.items m c.write.new.tables.words now) (sym moves)
    (subst (λ ns. IsWalked looks k (walk_node rule ask (node x.id x.op x.inputs.items (regions_of x.regions.items)) k w) written ns c.args.tables.now.moves c.write.new.tables.words now)
    (sym (nodes ∙ ap (λ os. written ++ node x.id x.op os new ∷ []) ins))
    (stays_walked looks rule ask x.id x.op x.inputs.items (regions_of x.regions.items) k c.args.inputs.now c.args.tables.now.moves c.args.tables.now.words c.args.uses.now w is
    written new c.write.new.tables.words now
    (λ before os around. ap said_of (sym c.in-Stays.is) ∙ c.in_ok-said.ensures before os around
    ∙ ap₂ (λ os' ss. ask w.values w.next before os (node x.id x.op os' (regions_of ss))) (c.as_slice.ensures ∙ ins) c.deref.ensures.value)
    walked
    (λ l b h. subst (λ os. AreWords c.write.new.tables.words (joined_nodes b (node_then (node x.id x.op os new) no_nodes))) ins (noted l b h))))))
    c.write.ensures.nodes c.write.ensures.moves c.write.ensures.words

pub open-returns-in_default-clause-ok : goal.open-returns-in_default-clause-ok
open-returns-in_default-clause-ok g t c = λ k inputs is.
    let looks = g.R.WalkRule.looks c.args.by.now in
    let rule = g.R.WalkRule.rule c.args.by.now in
    let ask = g.R.WalkRule.asked c.args.by.now in
    let x = c.node.inside in
    let it = c.args.opening in
    let w = walking c.args.counts.now.values c.args.counts.now.next c.args.log.now.items in
    let none : slice_get x.regions.items it.which ≡ None =
    ap (λ rs. slice_get rs it.which) (sym c.deref.ensures.value) ∙ slice_get_past c.deref.result.now it.which c.in_default.ensures.lookup.3 in
    subst (λ y. IsWalked looks k (open_at rule ask (regions_in y) (id_of y) (node_values y) it.which it.inputs.items it.from k w) c.args.written.now.items c.args.written.now.items
    c.args.tables.now.moves c.args.tables.now.words w) c.node.view_is
    (none_walked rule ask x.id (node_values (node x.id x.op x.inputs.items (regions_of x.regions.items))) it.inputs.items it.from k w looks inputs x.regions.items it.which
    c.args.written.now.items c.args.tables.now.moves c.args.tables.now.words c.args.uses.now none is)

pub open-returns-clause-ok : goal.open-returns-clause-ok
open-returns-clause-ok g t c =
    let looks = g.R.WalkRule.looks c.args.by.now in
    let rule = g.R.WalkRule.rule c.args.by.now in
    let ask = g.R.WalkRule.asked c.args.by.now in
    let x = c.node.inside in
    let r = c.region.inside in
    let it = c.args.opening in
    let before = c.args.written.now.items in
    let after = c.walk_nodes.new.written.items in
    let moves = c.walk_nodes.new.tables.moves in
    let words = c.walk_nodes.new.tables.words in
    let w = walking c.args.counts.now.values c.args.counts.now.next c.args.log.now.items in
    let start = walking c.step.new.self.values c.step.new.self.next c.push.new.self.items in
    let now = walking c.walk_nodes.new.counts.values c.walk_nodes.new.counts.next c.walk_nodes.new.log.items in
    let nodes = nodes_of r.nodes.items in
    let values = node_values (node x.id x.op x.inputs.items (regions_of x.regions.items)) in
    let there : slice_get x.regions.items it.which ≡ Some (region r.args.items nodes r.results.items) =
    found_at c.deref.result.now x.regions.items it.which c.in-Some.region.now (region r.args.items nodes r.results.items) c.deref.ensures.value c.in-Some.ensures.lookup.3.0 c.in-Some.ensures.lookup.1
    c.region.view_is in
    let olds : c.node_values-old.result ≡ saturated values =
    c.node_values-old.ensures ∙ ap (λ rs. saturated (node_values (node x.id x.op x.inputs.items (regions_of rs)))) c.deref-2.ensures.value in
    let news : c.nodes_values.result ≡ saturated (nodes_values nodes) = c.nodes_values.ensures ∙ ap (λ ns. saturated (nodes_values (nodes_of ns))) c.deref-3.ensures.value in
    let made : start ≡ stepped rule x.id values (nodes_values nodes) 0 w =
    step_made rule c.rule.result x.id c.args.counts.now.values c.args.counts.now.next 0 values (nodes_values nodes) c.node_values-old.result c.nodes_values.result
    c.step.new.self.values c.step.new.self.next c.args.log.now.items c.push.new.self.items news olds c.rule.ensures c.in_ok-step.ensures.values c.in_ok-step.ensures.next
    c.in_ok-step.ensures.counted c.in_ok-step.ensures.fits c.in_ok-push.ensures.items in
    let given : c.in_ok-outputs.outputs.items ≡ map (origin_in moves it.inputs.items) (drop it.from r.results.items) =
    c.in_ok-outputs.ensures
    ∙ ap₂ (λ os xs. map (origin_in moves os) xs) c.deref-8.ensures.value (c.from_on-gives.ensures ∙ ap (λ xs. drop it.from xs) c.deref-7.ensures.value) in
    on_ok c.note.result _ _
    (λ noted k inputs is.
    let d = cursor_in x.id it.inputs.items it.from nodes r.results.items k in
    let at : IsCursor looks d it.inputs.items c.args.tables.now.moves c.args.tables.now.words c.in_ok-inner.inner.value =
    inner_cursor rule ask x.id values it.inputs.items it.from k w looks r.args.items nodes r.results.items inputs c.args.tables.now.moves c.args.tables.now.words c.args.uses.now c.in_ok-inner.inner.value is
    (λ l os h. subst (λ y. AreUses c.in_ok-inner.inner.value (inputs_of_nodes (nodes_in y) ++ results_used os x.id 0 (drop it.from (results_of y)))) (sym c.region.view_is) (c.in_ok-inner.ensures l os h)) in
    let walked : IsWalked looks d (walk_nodes rule ask nodes d (stepped rule x.id values (nodes_values nodes) 0 w)) before after moves words now =
    subst (λ v. IsWalked looks d (walk_nodes rule ask nodes d v) before after moves words now) made
    (subst (λ ns. IsWalked looks d (walk_nodes rule ask (nodes_of ns) d start) before after moves words now) c.deref-4.ensures.value
    (c.in_ok-walk_nodes.ensures.ok d
    (subst (λ os. IsCursor looks d os c.args.tables.now.moves c.args.tables.now.words c.deref-6.result.now) (sym c.deref-5.ensures.value)
    (subst (λ us. IsCursor looks d it.inputs.items c.args.tables.now.moves c.args.tables.now.words us) (sym c.deref-6.ensures) at)))) in
    subst (λ y. IsWalked looks k (open_at rule ask (regions_in y) (id_of y) (node_values y) it.which it.inputs.items it.from k w) before after c.note.new.self words now) c.node.view_is
    (region_walked rule ask x.id values it.inputs.items it.from k w looks r.args.items nodes r.results.items x.regions.items it.which before after moves c.note.new.self words now
    c.in_ok-outputs.outputs.items there walked given noted))
    c.note.ensures

pub open-walk_nodes-requires : goal.open-walk_nodes-requires
open-walk_nodes-requires g t c =
    let x = c.node.inside in
    let r = c.region.inside in
    let it = c.args.opening in
    let nodes = nodes_of r.nodes.items in
    let there : slice_get x.regions.items it.which ≡ Some (region r.args.items nodes r.results.items) =
    found_at c.deref.result.now x.regions.items it.which c.in-Some.region.now (region r.args.items nodes r.results.items) c.deref.ensures.value c.in-Some.ensures.lookup.3.0 c.in-Some.ensures.lookup.1
    c.region.view_is in
    let closed : AreInnerClosed (nodes_of c.deref-4.result.now) =
    subst (λ ns. AreInnerClosed (nodes_of ns)) (sym c.deref-4.ensures.value)
    (region_inner r.args.items nodes r.results.items
    (closed_at x.regions.items it.which (region r.args.items nodes r.results.items) there (subst (λ y. AllClosed (regions_in y)) (sym c.node.view_is) c.requires.closed))) in
    let sound : AreSoundNodes (nodes_of c.deref-4.result.now) =
    subst (λ ns. AreSoundNodes (nodes_of ns)) (sym c.deref-4.ensures.value)
    (region_nodes r.args.items nodes r.results.items
    (sound_at x.regions.items it.which (region r.args.items nodes r.results.items) there (subst (λ y. AllSound (regions_in y)) (sym c.node.view_is) c.requires.inner))) in
    let smaller = inner_smaller r.args.items r.nodes.items c.deref-4.result.now r.results.items c.deref-4.ensures.value t x.id x.op x.inputs.items x.regions.items it.which c.args.node.now c.node.view_is
    there c.decreases in
    λ κs within. (smaller, (search rules, (closed, sound)))

pub open-returns-in_err-outputs-clause-gained : goal.open-returns-in_err-outputs-clause-gained
open-returns-in_err-outputs-clause-gained g t c =
    gained_step c.args.log.now.items c.push.new.self.items c.walk_nodes.new.log.items _ c.in_ok-push.ensures.items c.in_ok-walk_nodes.ensures.gained

pub open-returns-clause-gained : goal.open-returns-clause-gained
open-returns-clause-gained g t c =
    gained_step c.args.log.now.items c.push.new.self.items c.walk_nodes.new.log.items _ c.in_ok-push.ensures.items c.in_ok-walk_nodes.ensures.gained

pub walk_region-walk_nodes-requires : goal.walk_region-walk_nodes-requires
walk_region-walk_nodes-requires g t c =
    let r = c.region.inside in
    let closed : AreInnerClosed (nodes_of c.deref.result.now) =
    subst (λ ns. AreInnerClosed (nodes_of ns)) (sym c.deref.ensures.value)
    (region_inner r.args.items (nodes_of r.nodes.items) r.results.items (subst IsClosed (sym c.region.view_is) c.requires.closed)) in
    let sound : AreSoundNodes (nodes_of c.deref.result.now) =
    subst (λ ns. AreSoundNodes (nodes_of ns)) (sym c.deref.ensures.value)
    (region_nodes r.args.items (nodes_of r.nodes.items) r.results.items (subst IsSound (sym c.region.view_is) c.requires.sound)) in
    let smaller = nodes_smaller r.args.items r.nodes.items c.deref.result.now r.results.items c.deref.ensures.value t c.args.region.now c.region.view_is c.decreases in
    λ κs within. (smaller, (search rules, (closed, sound)))

pub walk_region-returns-in-Ok-clause-ok : goal.walk_region-returns-in-Ok-clause-ok
walk_region-returns-in-Ok-clause-ok g t c =
    let looks = g.R.WalkRule.looks c.args.by.now in
    let rule = g.R.WalkRule.rule c.args.by.now in
    let ask = g.R.WalkRule.asked c.args.by.now in
    let r = c.region.inside in
    let nodes = nodes_of r.nodes.items in
    let results = r.results.items in
    let tables = c.in_ok-tables.tables.value in
    let uses = c.in_ok-tables.uses.value in
    let moves = c.walk_nodes.new.tables.moves in
    let words = c.walk_nodes.new.tables.words in
    let written = c.walk_nodes.new.written.items in
    let start = walking c.args.counts.now.values c.args.counts.now.next c.args.log.now.items in
    let now = walking c.walk_nodes.new.counts.values c.walk_nodes.new.counts.next c.walk_nodes.new.log.items in
    let k = begin looks rule ask nodes results in
    let first : IsCursor looks k [] tables.moves tables.words uses = record {
      inputs_are = refl;
      moved = c.in_ok-tables.ensures.moves;
      around = λ l. (
        c.in_ok-tables.ensures.words,
        subst (λ y. AreUses uses (inputs_of_nodes (nodes_in y) ++ results_of y)) (sym c.region.view_is) (c.in_ok-tables.ensures.uses l),
      );
    } in
    let at : IsCursor looks k [] c.deref_mut.result.now.moves c.deref_mut.result.now.words c.deref-2.result.now =
    subst (λ b. IsCursor looks k [] b.moves b.words c.deref-2.result.now) (sym c.deref_mut.ensures.value)
    (subst (λ us. IsCursor looks k [] tables.moves tables.words us) (sym c.deref-2.ensures) first) in
    let walked : IsWalked looks k (walk_nodes rule ask nodes k start) [] written moves words now =
    subst (λ ns. IsWalked looks k (walk_nodes rule ask nodes k start) ns written moves words now) c.in_ok-nodes.ensures.items
    (subst (λ ns. IsWalked looks k (walk_nodes rule ask (nodes_of ns) k start) c.in_ok-nodes.nodes.items written moves words now) c.deref.ensures.value
    (subst (λ made. OnOk made ((k : Cursor) → IsCursor looks k [] c.deref_mut.result.now.moves c.deref_mut.result.now.words c.deref-2.result.now →
    IsWalked looks k (walk_nodes rule ask (nodes_of c.deref.result.now) k start) c.in_ok-nodes.nodes.items written moves words now)) c.in-Ok.is c.walk_nodes.ensures.ok k at)) in
    on_value c.end.result _ _
    (λ made is.
    ap (λ y. record { region = y; now = now }) (is ∙ ap (λ y. region (args_of y) (nodes_of written) (map (origin_in moves []) (results_of y))) (sym c.region.view_is))
    ∙ region_written looks rule ask r.args.items nodes results start now written moves words walked
    ∙ ap (λ y. walk_region rule ask y start) c.region.view_is)
    c.end.ensures
