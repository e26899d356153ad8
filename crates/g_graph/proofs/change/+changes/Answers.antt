use Rattle.std.proofs.Common.{◌≡◌, ◌<◌, ◌+◌, ◌∙◌, sym, ap, length, take, get_or, arith}
use Rattle.std.specs.Prelude.{slice_set}
use Rattle.std.specs.declared.option.Option.TheVariants.{Some, None}
use Rattle.g_graph.specs.Plain.{nodes_of, regions_of}
use Rattle.g_graph.specs.Change.{node_changed, region_changed, nodes_changed, regions_changed}
use Rattle.g_graph.proofs.lemmas.Change.{region_changed_here, nodes_changed_at, nodes_unchanged_more, regions_changed_at, regions_unchanged_more, set_same, when_true, when_false}
use Rattle.g_graph.proofs.change.+changes.Goals as goal

pub change_region-returns-then-branch-clause-ok : goal.change_region-returns-then-branch-clause-ok
change_region-returns-then-branch-clause-ok g t c =
    region_changed_here (g.C.Change.changed c.args.change.now) c.args.region.now c.make.new.region (when_true _ _ c.in_ok-make.field-0 c.if-branch.true c.in_ok-make.ensures.ok)

pub change_nodes-returns-then-branch-clause-ok : goal.change_nodes-returns-then-branch-clause-ok
change_nodes-returns-then-branch-clause-ok g t c =
    let f = g.C.Change.changed c.args.change.now in
    let same = c.loop-i.invariant.same in
    let here : node_changed f c.index_mut.result.now ≡ Some c.change_node.new.node =
    ap (λ h. node_changed (g.C.Change.changed h) c.index_mut.result.now) (sym c.loop-i.invariant.same_change)
    ∙ when_true _ _ c.in_ok-change_node.field-0 c.if-branch.true c.in_ok-change_node.ensures.ok in
    let none : nodes_changed f (nodes_of (take c.loop-i.i c.loop-i.nodes.items)) ≡ None = ap (λ zs. nodes_changed f (nodes_of (take c.loop-i.i zs))) same ∙ c.loop-i.invariant.none in
    let within : c.loop-i.i < length c.loop-i.nodes.items = omega (arith, ap length same, c.args.nodes.now.ok.0) in
    ap (λ zs. nodes_changed f (nodes_of zs)) (sym same) ∙ nodes_changed_at f c.loop-i.nodes.items c.loop-i.i c.index_mut.result.now c.change_node.new.node within c.index_mut.ensures.value none here

pub change_nodes-loop-i-preserved : goal.change_nodes-loop-i-preserved
change_nodes-loop-i-preserved g t c =
    let f = g.C.Change.changed c.args.change.now in
    let same = c.loop-i.invariant.same in
    let kept = when_false _ _ c.in_ok-change_node.field-0 c.if-branch.false c.in_ok-change_node.ensures.ok in
    let here : node_changed f c.index_mut.result.now ≡ None = ap (λ h. node_changed (g.C.Change.changed h) c.index_mut.result.now) (sym c.loop-i.invariant.same_change) ∙ kept.0 in
    let none : nodes_changed f (nodes_of (take c.loop-i.i c.loop-i.nodes.items)) ≡ None = ap (λ zs. nodes_changed f (nodes_of (take c.loop-i.i zs))) same ∙ c.loop-i.invariant.none in
    let within : c.loop-i.i < length c.loop-i.nodes.items = omega (arith, ap length same, c.args.nodes.now.ok.0) in
    let all : slice_set c.loop-i.nodes.items c.loop-i.i c.change_node.new.node ≡ c.args.nodes.now.items =
    set_same c.loop-i.nodes.items c.loop-i.i c.index_mut.result.now c.change_node.new.node c.index_mut.ensures.value kept.1 ∙ same in
    record {
      unvisited = (ap length all, λ k d b. ap (λ zs. get_or zs k d) all);
      same = all;
      same_change = kept.2 ∙ c.loop-i.invariant.same_change;
      none = ap (λ zs. nodes_changed f (nodes_of (take (c.loop-i.i + 1) zs))) (sym same) ∙ nodes_unchanged_more f c.loop-i.nodes.items c.loop-i.i c.index_mut.result.now within
          c.index_mut.ensures.value none here;
    }

pub change_regions-returns-then-branch-clause-ok : goal.change_regions-returns-then-branch-clause-ok
change_regions-returns-then-branch-clause-ok g t c =
    let f = g.C.Change.changed c.args.change.now in
    let same = c.loop-i.invariant.same in
    let here : region_changed f c.index_mut.result.now ≡ Some c.change_region.new.region =
    ap (λ h. region_changed (g.C.Change.changed h) c.index_mut.result.now) (sym c.loop-i.invariant.same_change)
    ∙ when_true _ _ c.in_ok-change_region.field-0 c.if-branch.true c.in_ok-change_region.ensures.ok in
    let none : regions_changed f (regions_of (take c.loop-i.i c.loop-i.regions.items)) ≡ None = ap (λ zs. regions_changed f (regions_of (take c.loop-i.i zs))) same ∙ c.loop-i.invariant.none in
    let within : c.loop-i.i < length c.loop-i.regions.items = omega (arith, ap length same, c.args.regions.now.ok.0) in
    ap (λ zs. regions_changed f (regions_of zs)) (sym same) ∙ regions_changed_at f c.loop-i.regions.items c.loop-i.i c.index_mut.result.now c.change_region.new.region within
    c.index_mut.ensures.value none here

pub change_regions-loop-i-preserved : goal.change_regions-loop-i-preserved
change_regions-loop-i-preserved g t c =
    let f = g.C.Change.changed c.args.change.now in
    let same = c.loop-i.invariant.same in
    let kept = when_false _ _ c.in_ok-change_region.field-0 c.if-branch.false c.in_ok-change_region.ensures.ok in
    let here : region_changed f c.index_mut.result.now ≡ None = ap (λ h. region_changed (g.C.Change.changed h) c.index_mut.result.now) (sym c.loop-i.invariant.same_change) ∙ kept.0 in
    let none : regions_changed f (regions_of (take c.loop-i.i c.loop-i.regions.items)) ≡ None = ap (λ zs. regions_changed f (regions_of (take c.loop-i.i zs))) same ∙ c.loop-i.invariant.none in
    let within : c.loop-i.i < length c.loop-i.regions.items = omega (arith, ap length same, c.args.regions.now.ok.0) in
    let all : slice_set c.loop-i.regions.items c.loop-i.i c.change_region.new.region ≡ c.args.regions.now.items =
    set_same c.loop-i.regions.items c.loop-i.i c.index_mut.result.now c.change_region.new.region c.index_mut.ensures.value kept.1 ∙ same in
    record {
      unvisited = (ap length all, λ k d b. ap (λ zs. get_or zs k d) all);
      same = all;
      same_change = kept.2 ∙ c.loop-i.invariant.same_change;
      none = ap (λ zs. regions_changed f (regions_of (take (c.loop-i.i + 1) zs))) (sym same) ∙ regions_unchanged_more f c.loop-i.regions.items c.loop-i.i c.index_mut.result.now within
          c.index_mut.ensures.value none here;
    }
