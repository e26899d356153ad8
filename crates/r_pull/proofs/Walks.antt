-- A walk of Pull is its sweep from behind: by recursion over the old tree, where what is written stands behind the cursor.
use Rattle.std.specs.Prelude.{reverse}
use Rattle.std.proofs.Common.{◌≡◌, ℕ, List, [], ◌∷◌, ◌++◌, refl, sym, ap, subst, ◌∙◌}
use Rattle.std.proofs.lemmas.List.{reverse-append}
use Rattle.std.proofs.lemmas.List.Sums.{fold-append}
use Rattle.g_graph.specs.declared.op.Kind.{Kind}
use Rattle.g_graph.specs.declared.op.Op.{Op}
use Rattle.g_graph.specs.declared.op.Origin.{Origin}
use Rattle.g_graph.specs.Count.{region_values}
use Rattle.g_graph.specs.Ids.{region_ids, node_ids, nodes_ids, regions_ids}
use Rattle.g_graph.specs.Plain.{RegionTree, region, NodeTree, node, NodeTrees, no_nodes, node_then, RegionTrees, no_regions, region_then, PlainLambda}
use Rattle.g_graph.specs.Splice.{joined_nodes}
use Rattle.g_graph.proofs.lemmas.Splices.{joined_assoc}
use Rattle.r_pull.specs.Laws.{PullIsAStep}
use Rattle.r_pull.specs.WalkLaws.{pull_change, PullWalksAreSweeps}
use Rattle.r_pull.specs.Walk.{Behind, walk_region, walk_regions, walk_nodes, walk_node}
use Rattle.r_pull.proofs.Places.{IsPlace, body_place, inner_place}
use Rattle.r_pull.proofs.WalkStep.{IsSweep, IsNow, logged, lambda_of, none_swept, node_swept}
use Rattle.r_sweep_def.specs.Swept.{tried_by, swept_by}
use Rattle.r_walk.specs.Context.{joined_regions}
use Rattle.r_walk.specs.Walk.{Walking, WrittenRegion, WrittenRegions}

-- ---- sweeps one after the other

-- of two parts the last is swept first
both_swept : (first last : List ℕ) (l k j : PlainLambda) (w v u : Walking) → IsSweep (reverse last) l w k v → IsSweep (reverse first) k v j u → IsSweep (reverse (first ++ last)) l w j u
both_swept first last l k j w v u s t = record {
  swept = ap (λ ns. swept_by pull_change ns (logged l w)) (reverse-append first last) ∙ fold-append (tried_by pull_change) (logged l w) (reverse last) (reverse first)
      ∙ ap (swept_by pull_change (reverse first)) s.swept ∙ t.swept;
  well = t.well;
  values = t.values;
  next = t.next;
}

-- what was swept is a lambda with its body
now_of : (ids : List ℕ) (l : PlainLambda) (w v : Walking) (body : RegionTree) → IsSweep ids l w (lambda_of l body v) v → IsNow body v (lambda_of l body v)
now_of ids l w v body s = record { well = s.well; body_is = refl; values = s.values; next = s.next }

with_body : (w : Walking) (l : PlainLambda) (r s : RegionTree) → r ≡ s → IsNow r w l → IsNow s w l
with_body w l r s e now = subst (λ z. IsNow z w l) e now

regions_after : (done : RegionTrees) (r : RegionTree) (rs : RegionTrees) → joined_regions (joined_regions done (region_then r no_regions)) rs ≡ joined_regions done (region_then r rs)
regions_after no_regions r rs = refl
regions_after (region_then q done) r rs = ap (region_then q) (regions_after done r rs)

-- ---- the walk

module _ (is_step : PullIsAStep) where
  -- what is to be shown of the last nodes of a region, of a node before those, of a region, and of the last regions of a node
  abbrev NodesAre : NodeTrees → Type 0
  NodesAre ns =
      (context : RegionTree → RegionTree) → IsPlace context → (args : List Kind) (before : NodeTrees) (results : List Origin) (w : Walking) (l : PlainLambda) →
      IsNow (context (region args (joined_nodes before ns) results)) w l →
      IsSweep (reverse (nodes_ids ns)) l w (lambda_of l (context (region args (joined_nodes before (walk_nodes ns results w).nodes) results)) (walk_nodes ns results w).now) (walk_nodes ns results w).now

  abbrev NodeIs : NodeTree → Type 0
  NodeIs x =
      (context : RegionTree → RegionTree) → IsPlace context → (args : List Kind) (before : NodeTrees) (results : List Origin) (s : Behind) (l : PlainLambda) →
      IsNow (context (region args (joined_nodes before (node_then x s.nodes)) results)) s.now l →
      IsSweep (reverse (node_ids x)) l s.now (lambda_of l (context (region args (joined_nodes before (walk_node x results s).nodes) results)) (walk_node x results s).now) (walk_node x results s).now

  abbrev RegionIs : RegionTree → Type 0
  RegionIs r =
      (context : RegionTree → RegionTree) → IsPlace context → (w : Walking) (l : PlainLambda) → IsNow (context r) w l →
      IsSweep (reverse (region_ids r)) l w (lambda_of l (context (walk_region r w).region) (walk_region r w).now) (walk_region r w).now

  abbrev RegionsAre : RegionTrees → Type 0
  RegionsAre rs =
      (context : RegionTree → RegionTree) → IsPlace context → (args : List Kind) (before : NodeTrees) (id : ℕ) (op : Op) (inputs : List Origin) (done : RegionTrees) (after : NodeTrees)
      (results : List Origin) (w : Walking) (l : PlainLambda) →
      IsNow (context (region args (joined_nodes before (node_then (node id op inputs (joined_regions done rs)) after)) results)) w l →
      IsSweep (reverse (regions_ids rs)) l w
      (lambda_of l (context (region args (joined_nodes before (node_then (node id op inputs (joined_regions done (walk_regions rs w).regions)) after)) results)) (walk_regions rs w).now)
      (walk_regions rs w).now

  mutual
    nodes_are : (ns : NodeTrees) → NodesAre ns
    nodes_are no_nodes context place args before results w l now = none_swept l (context (region args (joined_nodes before no_nodes) results)) w now
    nodes_are (node_then x xs) context place args before results w l now =
        let s : Behind = walk_nodes xs results w in
        let t : Behind = walk_node x results s in
        let more : (ns : NodeTrees) → joined_nodes (joined_nodes before (node_then x no_nodes)) ns ≡ joined_nodes before (node_then x ns) = λ ns. joined_assoc before (node_then x no_nodes) ns in
        let behind = nodes_are xs context place args (joined_nodes before (node_then x no_nodes)) results w l
        (with_body w l _ _ (ap (λ ns. context (region args ns results)) (sym (more xs))) now) in
        let body : RegionTree = context (region args (joined_nodes before (node_then x s.nodes)) results) in
        let then = subst (λ ns. IsSweep (reverse (nodes_ids xs)) l w (lambda_of l (context (region args ns results)) s.now) s.now) (more s.nodes) behind in
        both_swept (node_ids x) (nodes_ids xs) l (lambda_of l body s.now) (lambda_of l (context (region args (joined_nodes before t.nodes) results)) t.now) w s.now t.now then
        (node_is x context place args before results s (lambda_of l body s.now) (now_of (reverse (nodes_ids xs)) l w s.now body then))

    node_is : (x : NodeTree) → NodeIs x
    node_is (node id op inputs rs) context place args before results s l now =
        let t : WrittenRegions = walk_regions rs s.now in
        let body : RegionTree = context (region args (joined_nodes before (node_then (node id op inputs t.regions) s.nodes)) results) in
        let inner = regions_are rs context place args before id op inputs no_regions s.nodes results s.now l now in
        let u : Behind = walk_node (node id op inputs rs) results s in
        both_swept (id ∷ []) (regions_ids rs) l (lambda_of l body t.now) (lambda_of l (context (region args (joined_nodes before u.nodes) results)) u.now) s.now t.now u.now inner
        (node_swept is_step context place args before id op inputs t.regions (record { nodes = s.nodes; now = t.now }) results (lambda_of l body t.now)
        (now_of (reverse (regions_ids rs)) l s.now t.now body inner))

    region_is : (r : RegionTree) → RegionIs r
    region_is (region args nodes results) context place w l now = nodes_are nodes context place args no_nodes results w l now

    regions_are : (rs : RegionTrees) → RegionsAre rs
    regions_are no_regions context place args before id op inputs done after results w l now =
        none_swept l (context (region args (joined_nodes before (node_then (node id op inputs (joined_regions done no_regions)) after)) results)) w now
    regions_are (region_then r rs) context place args before id op inputs done after results w l now =
        let whole : RegionTrees → RegionTree = λ qs. context (region args (joined_nodes before (node_then (node id op inputs qs) after)) results) in
        let t : WrittenRegions = walk_regions rs w in
        let s : WrittenRegion = walk_region r t.now in
        let rest = regions_are rs context place args before id op inputs (joined_regions done (region_then r no_regions)) after results w l
        (with_body w l _ _ (ap whole (sym (regions_after done r rs))) now) in
        let body : RegionTree = whole (joined_regions done (region_then r t.regions)) in
        let then = subst (λ qs. IsSweep (reverse (regions_ids rs)) l w (lambda_of l (whole qs) t.now) t.now) (regions_after done r t.regions) rest in
        both_swept (region_ids r) (regions_ids rs) l (lambda_of l body t.now) (lambda_of l (whole (joined_regions done (region_then s.region t.regions))) s.now) w t.now s.now then
        (region_is r (λ q. whole (joined_regions done (region_then q t.regions))) (inner_place context place args before id op inputs done t.regions after results) t.now (lambda_of l body t.now)
        (now_of (reverse (regions_ids rs)) l w t.now body then))

  pub pull_walks_are_sweeps : PullWalksAreSweeps
  pull_walks_are_sweeps s well =
      let w : Walking = record { values = region_values s.lambda.body; next = s.lambda.next; steps = s.steps } in
      sym (region_is s.lambda.body (λ r. r) body_place w s.lambda (record { well = well; body_is = refl; values = refl; next = refl })).swept
