-- Each node and region that is walked goes on with the whole.
use Rattle.std.proofs.Common.{◌≡◌, ◌+◌, ◌∷◌, [], map, drop, drop_of_length-le, refl, ap, ap₂, sym, subst, ◌∙◌}
use Rattle.std.proofs.lemmas.List.{append-nil, drop_more}
use Rattle.g_graph.specs.Plain.{region_then, nodes_in, results_of, regions_in, nodes_of, regions_of}
use Rattle.r_push.specs.Edit.{outer}
use Rattle.r_push.specs.Walk.{Cursor, at_start, walk_nodes, walk_region, walk_regions}
use Rattle.r_walk.specs.Around.{AreUses}
use Rattle.r_walk.specs.Moves.{AreMoves, origin_in}
use Rattle.r_walk.specs.Context.{joined_regions}
use Rattle.r_push.specs.Walks.{exit_in, walking, IsWalked}
use Rattle.r_push.proofs.Along.{IsAlong, begins, goes_on, ends, region_written, joined_more, joined_none, gained_more, nodes_smaller, if_ok, on_ok, done, made_ok, left_walked, stays_walked}
use Rattle.r_push.proofs.walker.+walk.Goals as goal

pub walk_nodes-loop-node-init : goal.walk_nodes-loop-node-init
walk_nodes-loop-node-init t c = record {
  along = λ k is.
      begins (nodes_of c.args.nodes.now) k (walking c.args.values.now c.args.outside.now c.args.log.now.items) c.args.written.now.items c.args.place.now c.args.moves.now is;
  gained = ([], sym (append-nil c.args.log.now.items));
}

pub walk_nodes-loop-node-preserved : goal.walk_nodes-loop-node-preserved
walk_nodes-loop-node-preserved t c =
    let items = c.args.nodes.now in
    let i = c.loop-node.node-index in
    let x = c.node-item.result in
    let start = walking c.args.values.now c.args.outside.now c.args.log.now.items in
    let now = walking c.loop-node.values c.loop-node.outside c.loop-node.log.items in
    let later = walking c.walk_node.new.values c.walk_node.new.outside c.walk_node.new.log.items in
    let more : drop i items ≡ x ∷ drop (i + 1) items = drop_more items i x c.loop-node-test.true ∙ ap (λ y. y ∷ drop (i + 1) items) (sym c.node-item.is) in
    record {
      along = λ k is.
          goes_on (nodes_of items) k start c.args.written.now.items c.loop-node.written.items c.walk_node.new.written.items c.args.place.now c.loop-node.moves c.walk_node.new.moves x
          (nodes_of (drop (i + 1) items)) now later
          (subst (λ ns. IsAlong (nodes_of items) k start c.args.written.now.items c.loop-node.written.items c.args.place.now c.loop-node.moves (nodes_of ns) now) more (c.loop-node.invariant.along k is))
          c.in_ok-walk_node.ensures.ok;
      gained = gained_more c.args.log.now.items c.loop-node.log.items c.walk_node.new.log.items c.loop-node.invariant.gained c.in_ok-walk_node.ensures.gained;
    }

pub walk_nodes-returns-clause-ok : goal.walk_nodes-returns-clause-ok
walk_nodes-returns-clause-ok t c = λ k is.
    let items = c.args.nodes.now in
    let start = walking c.args.values.now c.args.outside.now c.args.log.now.items in
    let now = walking c.loop-node.values c.loop-node.outside c.loop-node.log.items in
    ends (nodes_of items) k start c.args.written.now.items c.loop-node.written.items c.args.place.now c.loop-node.moves now
    (subst (λ ns. IsAlong (nodes_of items) k start c.args.written.now.items c.loop-node.written.items c.args.place.now c.loop-node.moves (nodes_of ns) now)
    (drop_of_length-le items c.loop-node-test.false) (c.loop-node.invariant.along k is))

pub walk_regions-loop-region-init : goal.walk_regions-loop-region-init
walk_regions-loop-region-init t c =
    let r = walk_regions (regions_of c.args.regions.now) (exit_in c.args.exit) (walking c.args.values.now c.args.outside.now c.args.log.now.items) in
    record {
      along = ap (λ made. record { regions = joined_regions (regions_of made) r.regions; now = r.now }) c.in_ok-made.ensures.items;
      gained = ([], sym (append-nil c.args.log.now.items));
    }

pub walk_regions-loop-region-preserved : goal.walk_regions-loop-region-preserved
walk_regions-loop-region-preserved t c =
    let e = exit_in c.args.exit in
    let items = c.args.regions.now in
    let i = c.loop-region.region-index in
    let x = c.region-item.result in
    let w = walking c.loop-region.values c.loop-region.outside c.loop-region.log.items in
    let v = walking c.walk_region.new.values c.walk_region.new.outside c.walk_region.new.log.items in
    let s = walk_region x e w in
    let rest = walk_regions (regions_of (drop (i + 1) items)) e in
    let more : drop i items ≡ x ∷ drop (i + 1) items = drop_more items i x c.loop-region-test.true ∙ ap (λ y. y ∷ drop (i + 1) items) (sym c.region-item.is) in
    let one : record { region = c.in_ok-walk_region.field-0; now = v } ≡ s = c.in_ok-walk_region.ensures.ok in
    record {
      along =
          ap₂ (λ ms u. record { regions = joined_regions (regions_of ms) (rest u).regions; now = (rest u).now }) c.in_ok-push.ensures.items (ap (λ z. z.now) one)
          ∙ ap (λ rs. record { regions = rs; now = (rest s.now).now })
          (joined_more c.loop-region.made.items c.in_ok-walk_region.field-0 (rest s.now).regions
          ∙ ap (λ z. joined_regions (regions_of c.loop-region.made.items) (region_then z.region (rest s.now).regions)) one)
          ∙ ap (λ rs. record { regions = joined_regions (regions_of c.loop-region.made.items) (walk_regions (regions_of rs) e w).regions; now = (walk_regions (regions_of rs) e w).now }) (sym more)
          ∙ c.loop-region.invariant.along;
      gained = gained_more c.args.log.now.items c.loop-region.log.items c.walk_region.new.log.items c.loop-region.invariant.gained c.in_ok-walk_region.ensures.gained;
    }

pub walk_regions-returns-clause-ok : goal.walk_regions-returns-clause-ok
walk_regions-returns-clause-ok t c =
    let e = exit_in c.args.exit in
    let w = walking c.loop-region.values c.loop-region.outside c.loop-region.log.items in
    let made = regions_of c.loop-region.made.items in
    ap (λ rs. record { regions = rs; now = w }) (sym (joined_none made))
    ∙ ap (λ rs. record { regions = joined_regions made (walk_regions (regions_of rs) e w).regions; now = (walk_regions (regions_of rs) e w).now })
    (sym (drop_of_length-le c.args.regions.now c.loop-region-test.false))
    ∙ c.loop-region.invariant.along

pub walk_node-returns-then-leaves-clause-ok : goal.walk_node-returns-then-leaves-clause-ok
walk_node-returns-then-leaves-clause-ok t c =
    let before = c.args.written.now.items in
    let w = walking c.args.values.now c.args.outside.now c.args.log.now.items in
    let now = walking c.leave.new.values c.leave.new.outside c.leave.new.log.items in
    on_ok c.leave.result _ _
    (λ left k is.
    left_walked k c.args.place.now c.args.moves.now w is c.args.node.now before before c.leave.new.moves now
    (sym (c.leaves.ensures.is k c.args.log.now.items is) ∙ c.if-leaves.true) (left k before is))
    c.leave.ensures.ok

pub walk_node-returns-in-Ok-clause-ok : goal.walk_node-returns-in-Ok-clause-ok
walk_node-returns-in-Ok-clause-ok t c =
    let before = c.args.written.now.items in
    let w = walking c.args.values.now c.args.outside.now c.args.log.now.items in
    let from = walking c.args.values.now c.deref_mut.result.now c.args.log.now.items in
    let inner = walking c.walk_regions.new.values c.walk_regions.new.outside c.walk_regions.new.log.items in
    let exit = exit_in c.exit_of-exit.result in
    let begun : from ≡ record w { inputs = map (origin_in c.args.moves.now []) (outer c.args.node.now); left = [] } =
    ap (λ o. walking c.args.values.now o c.args.log.now.items) c.deref_mut.ensures.value
    ∙ ap₂ (λ os ys. record w { inputs = os; left = ys }) c.in_ok-inner.ensures.inputs c.in_ok-inner.ensures.left in
    on_ok c.write.result _ _
    (λ written k is.
    stays_walked k c.args.place.now c.args.moves.now w is c.args.node.now before c.write.new.written.items exit from inner (regions_of c.in-Ok.regions.items)
    (sym (c.leaves.ensures.is k c.args.log.now.items is) ∙ c.if-leaves.false) c.exit_of-exit.ensures begun
    (made_ok c.walk_regions.result _ _ c.in-Ok.is c.walk_regions.ensures.ok
    ∙ ap (λ rs. walk_regions (regions_of rs) exit from) c.deref.ensures.value ∙ ap (λ y. walk_regions (regions_in y) exit from) c.node.view_is)
    written)
    c.write.ensures

pub walk_region-walk_nodes-requires : goal.walk_region-walk_nodes-requires
walk_region-walk_nodes-requires t c =
    let r = c.region.inside in
    let smaller = nodes_smaller r.args.items r.nodes.items c.deref-3.result.now r.results.items c.deref-3.ensures.value t c.args.region.now c.region.view_is c.decreases in
    (smaller, tt)

pub walk_region-returns-in-Ok-clause-ok : goal.walk_region-returns-in-Ok-clause-ok
walk_region-returns-in-Ok-clause-ok t c =
    let r = c.args.region.now in
    let e = exit_in c.args.exit in
    let moves = c.walk_nodes.new.moves in
    let written = c.walk_nodes.new.written.items in
    let start = walking c.args.values.now c.args.outside.now c.args.log.now.items in
    let now = walking c.walk_nodes.new.values c.walk_nodes.new.outside c.walk_nodes.new.log.items in
    let k : Cursor = at_start e (nodes_in r) (results_of r) in
    let walked : IsWalked (walk_nodes (nodes_in r) k start) [] written moves now =
    subst (λ ns. IsWalked (walk_nodes (nodes_in r) k start) ns written moves now) c.in_ok-nodes.ensures.items
    (subst (λ ns. IsWalked (walk_nodes ns k start) c.in_ok-nodes.nodes.items written moves now) (ap nodes_of c.deref-3.ensures.value ∙ ap nodes_in c.region.view_is)
    (done c.walk_nodes.result _ _ c.in-Ok.is c.walk_nodes.ensures.ok k (record {
      exit_is = refl;
      used = subst (λ u. AreUses u k.uses) (sym c.deref.ensures) c.in_ok-moves.ensures.uses;
      results_are = sym (c.deref-2.ensures.value ∙ ap results_of c.region.view_is);
      moved = subst (λ m. AreMoves m []) (sym c.deref_mut.ensures.value) c.in_ok-moves.ensures.moves;
    }))) in
    if_ok c.end.result _ _
    (λ made is. ap (λ m. record { region = m; now = now }) is ∙ region_written r e start now written moves walked)
    c.end.ensures
