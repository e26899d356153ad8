-- The changes at one node of a list of nodes, each by what it does to the node, its regions, and the uses around it.
use Rattle.std.proofs.Common.{◌≡◌, ◌≤◌, ◌<◌, ◌+◌, ℕ, zero, suc, false, Some, List, [], ◌∷◌, ◌++◌, map, length, refl, sym, ap, subst, ◌∙◌, arith, append_assoc}
use Rattle.std.specs.Prelude.{slice_get, option_and_then}
use Rattle.std.specs.List.{remove}
use Rattle.std.proofs.lemmas.Option.{same_Some}
use Rattle.g_graph.specs.declared.op.Kind.{Kind}
use Rattle.g_graph.specs.declared.op.Op.{Op}
use Rattle.g_graph.specs.declared.op.Origin.{Origin}
use Rattle.g_graph.specs.Plain.{RegionTree, region, node, NodeTrees, no_nodes, node_then, RegionTrees, no_regions, region_then, PlainLambda, count_of}
use Rattle.g_graph.specs.Ids.{region_ids, nodes_ids, regions_ids}
use Rattle.g_graph.specs.Signatures.{outputs_of}
use Rattle.g_graph.specs.WellFormed.{kinds_of}
use Rattle.g_graph.specs.Splice.{joined_nodes}
use Rattle.g_graph.specs.Replace.{nodes_redirected}
use Rattle.g_graph.proofs.lemmas.Redirects.{nodes_ids-redirected}
use Rattle.g_graph.proofs.lemmas.Splices.{nodes_ids-joined}
use Rattle.g_graph.proofs.lemmas.Unique.{times, times_append}
use Rattle.g_arena_def.specs.declared.place.Place.{Place}
use Rattle.g_arena_def.specs.Flat.{FlatRegion, FlatNode, Flat, place_in, region_flat, regions_flat, in_region, in_nodes, in_node, in_regions, flat_of, same_node, same_place}
use Rattle.g_arena_def.specs.Reads.{found, region_at}
use Rattle.g_arena_def.specs.Edits.{node_with, at_with, region_with, inputs_at, uses_with, output_less, outputs_follow, output_removed, argument_less, arguments_follow, argument_removed, result_removed, input_removed}
use Rattle.r_sweep.proofs.lemmas.Outside.{times_head, AreOutside, AreApart, IsNone, none_of_both, none_of_rest, outside_apart, place_apart, nodes_outside, regions_apart}
use Rattle.r_sweep.proofs.lemmas.Regions.{IsAlike}
use Rattle.r_sweep.proofs.lemmas.Around.{Around, with_nodes, node_with_past, node_with_here, found_past, found_here, other_node, region_set}
use Rattle.r_sweep.proofs.lemmas.Inputs.{map_both, map_map, map_id, inputs_apart, inputs_outside, inputs_twice, inputs_id, inputs_nodes, input_here, input_apart, same_place_self, regions_with, nodes_with, inputs_region}

-- ---- nodes in parts

pub in_nodes-joined : (p : Place) (xs ys : NodeTrees) → in_nodes p (joined_nodes xs ys) ≡ in_nodes p xs ++ in_nodes p ys
in_nodes-joined p no_nodes ys = refl
in_nodes-joined p (node_then x xs) ys = ap (λ zs. in_node p x ++ zs) (in_nodes-joined p xs ys) ∙ sym (append_assoc (in_node p x) (in_nodes p xs) (in_nodes p ys))

-- ---- the regions of a node

-- a region whose result of an index goes, and one whose argument goes
abbrev pub result_gone : (index : ℕ) → RegionTree → RegionTree
result_gone k (region args ns results) = region args ns (remove results k)

abbrev pub argument_gone : (index : ℕ) → RegionTree → RegionTree
argument_gone k (region args ns results) =
    region (remove args k) (nodes_redirected (argument_less k (length args)) ns) (map (argument_less k (length args)) results)

pub result_records : (k j : ℕ) (rs : RegionTrees) → regions_flat (regions_with j (result_gone k) rs) ≡ at_with j (λ (r : FlatRegion). record r { results = remove r.results k }) (regions_flat rs)
result_records k j no_regions = refl
result_records k zero (region_then (region args ns results) rs) = refl
result_records k (suc j) (region_then r rs) = ap (λ ys. region_flat r ∷ ys) (result_records k j rs)

pub result_nodes : (k j n first : ℕ) (rs : RegionTrees) → in_regions n first (regions_with j (result_gone k) rs) ≡ in_regions n first rs
result_nodes k j n first no_regions = refl
result_nodes k zero n first (region_then (region args ns results) rs) = refl
result_nodes k (suc j) n first (region_then r rs) = ap (λ ys. in_region (place_in n first) r ++ ys) (result_nodes k j n (suc first) rs)

-- a region of these
pub record RegionOf (index : ℕ) (rs : RegionTrees) : Type 0 where
  pub args : List Kind
  pub nodes : NodeTrees
  pub results : List Origin
  pub gets : slice_get (regions_flat rs) index ≡ Some (record { args = args; results = results })
  pub is : (f : RegionTree → RegionTree) → regions_with index f rs ≡ regions_with index (λ r. f (region args nodes results)) rs

pub region_of : (index : ℕ) (rs : RegionTrees) → index < count_of rs → RegionOf index rs
region_of k no_regions h = absurd (omega (arith, h))
region_of zero (region_then (region args ns results) rs) h = record { args = args; nodes = ns; results = results; gets = refl; is = λ f. refl }
region_of (suc k) (region_then r rs) h =
    let o = region_of k rs (omega (arith, h)) in
    record { args = o.args; nodes = o.nodes; results = o.results; gets = o.gets; is = λ f. ap (region_then r) (o.is f) }

-- the records of a region of which an argument goes, by the count of its arguments
pub argument_records : (k j c : ℕ) (rs : RegionTrees) →
    at_with j (λ (r : FlatRegion). record r { results = map (argument_less k c) r.results }) (at_with j (λ (r : FlatRegion). record r { args = remove r.args k }) (regions_flat rs))
    ≡ at_with j (λ (r : FlatRegion). record { args = remove r.args k; results = map (argument_less k c) r.results }) (regions_flat rs)
argument_records k j c no_regions = refl
argument_records k zero c (region_then r rs) = refl
argument_records k (suc j) c (region_then r rs) = ap (λ ys. region_flat r ∷ ys) (argument_records k j c rs)

pub records_with : (j : ℕ) (f : FlatRegion → FlatRegion) (g : RegionTree → RegionTree) → ((r : RegionTree) → region_flat (g r) ≡ f (region_flat r)) → (rs : RegionTrees) →
    regions_flat (regions_with j g rs) ≡ at_with j f (regions_flat rs)
records_with j f g h no_regions = refl
records_with zero f g h (region_then r rs) = ap (λ x. x ∷ regions_flat rs) (h r)
records_with (suc j) f g h (region_then r rs) = ap (λ ys. region_flat r ∷ ys) (records_with j f g h rs)

-- the nodes of regions do not depend on their arguments and results
pub nodes_alone : (j n first : ℕ) (f g : RegionTree → RegionTree) → ((p : Place) (r : RegionTree) → in_region p (f r) ≡ in_region p (g r)) → (rs : RegionTrees) →
    in_regions n first (regions_with j f rs) ≡ in_regions n first (regions_with j g rs)
nodes_alone j n first f g h no_regions = refl
nodes_alone zero n first f g h (region_then r rs) = ap (λ ys. ys ++ in_regions n (suc first) rs) (h (place_in n first) r)
nodes_alone (suc j) n first f g h (region_then r rs) = ap (λ ys. in_region (place_in n first) r ++ ys) (nodes_alone j n (suc first) f g h rs)

pub argument_ids : (k j : ℕ) (rs : RegionTrees) → regions_ids (regions_with j (argument_gone k) rs) ≡ regions_ids rs
argument_ids k j no_regions = refl
argument_ids k zero (region_then (region args ns results) rs) = ap (λ ys. ys ++ regions_ids rs) (nodes_ids-redirected (argument_less k (length args)) ns)
argument_ids k (suc j) (region_then r rs) = ap (λ ys. region_ids r ++ ys) (argument_ids k j rs)

pub result_ids : (k j : ℕ) (rs : RegionTrees) → regions_ids (regions_with j (result_gone k) rs) ≡ regions_ids rs
result_ids k j no_regions = refl
result_ids k zero (region_then (region args ns results) rs) = refl
result_ids k (suc j) (region_then r rs) = ap (λ ys. region_ids r ++ ys) (result_ids k j rs)

pub at_with_at : {X : Type 0} (k : ℕ) (f : X → X) (y : X) (xs : List X) → slice_get xs k ≡ Some y → at_with k f xs ≡ at_with k (λ x. f y) xs
at_with_at k f y [] e = refl
at_with_at zero f y (x ∷ xs) e = ap (λ z. f z ∷ xs) (same_Some x y e)
at_with_at (suc k) f y (x ∷ xs) e = ap (λ ys. x ∷ ys) (at_with_at k f y xs e)

pub inputs_first : (n k : ℕ) (f : Origin → Origin) (rs : RegionTrees) → times n (regions_ids rs) ≡ 0 →
    map (inputs_at (place_in n k) f) (in_regions n 0 rs) ≡ in_regions n 0 (regions_with k (nodes_with f) rs)
inputs_first n k f rs e =
    let first : k ≡ 0 + k = omega arith in
    ap (λ m. map (inputs_at (place_in n m) f) (in_regions n 0 rs)) first ∙ inputs_region n k 0 f rs e

-- ---- a node in its region

-- Node n in a lambda: the nodes before and after it in its region.
pub record Within (n : ℕ) (l : PlainLambda) : Type 0 where
  pub around : Around n l
  pub args : List Kind
  pub before : NodeTrees
  pub op : Op
  pub inputs : List Origin
  pub regions : RegionTrees
  pub after : NodeTrees
  pub results : List Origin
  pub is : around.here ≡ region args (joined_nodes before (node_then (node n op inputs regions) after)) results

module _ (n : ℕ) (l : PlainLambda) (w : Within n l) where
  abbrev pub place : Place
  place = w.around.place

  abbrev pub node_now : (outputs : List Kind) → (inputs : List Origin) → RegionTrees → FlatNode
  node_now outputs inputs rs = record { id = n; op = w.op; inputs = inputs; outputs = outputs; regions = regions_flat rs; home = place }

  abbrev pub record_now : (Origin → Origin) → FlatRegion
  record_now f = record { args = w.args; results = map f w.results }

  -- what follows the node in pre-order, and what stands before it
  abbrev pub rest_now : (Origin → Origin) → RegionTrees → List FlatNode
  rest_now f rs = in_regions n 0 rs ++ (map (inputs_at place f) (in_nodes place w.after) ++ w.around.after)

  abbrev pub nodes_now : (Origin → Origin) → FlatNode → RegionTrees → List FlatNode
  nodes_now f x rs = map (inputs_at place f) (in_nodes place w.before) ++ (x ∷ rest_now f rs)

  abbrev pub flat_with : FlatRegion → List FlatNode → Flat
  flat_with r zs = with_nodes l (w.around.body r) (w.around.before r ++ zs)

  -- the list of nodes, where uses in the node's region come from what f makes of their origins, and the node has these
  -- outputs, inputs and regions
  abbrev pub state : (Origin → Origin) → (outputs : List Kind) → (inputs : List Origin) → RegionTrees → Flat
  state f outputs inputs rs = flat_with (record_now f) (nodes_now f (node_now outputs inputs rs) rs)

  -- ---- numbers

  ids_are : region_ids w.around.here ≡ nodes_ids w.before ++ ((n ∷ regions_ids w.regions) ++ nodes_ids w.after)
  ids_are = ap region_ids w.is ∙ nodes_ids-joined w.before (node_then (node n w.op w.inputs w.regions) w.after)

  pub counts : (m : ℕ) → times m (region_ids w.around.here) ≡ times m (nodes_ids w.before) + (times m (n ∷ regions_ids w.regions) + times m (nodes_ids w.after))
  counts m =
      ap (times m) ids_are ∙ times_append m (nodes_ids w.before) ((n ∷ regions_ids w.regions) ++ nodes_ids w.after)
      ∙ ap (λ k. times m (nodes_ids w.before) + k) (times_append m (n ∷ regions_ids w.regions) (nodes_ids w.after))

  pub here_once : 1 ≤ times n (region_ids w.around.here)
  here_once = omega (arith, counts n, times_head n (regions_ids w.regions))

  pub not_nested : times n (regions_ids w.regions) ≡ 0
  not_nested = omega (arith, w.around.once n, counts n, times_head n (regions_ids w.regions))

  pub not_before : times n (nodes_ids w.before) ≡ 0
  not_before = omega (arith, w.around.once n, counts n, times_head n (regions_ids w.regions))

  pub not_after : times n (nodes_ids w.after) ≡ 0
  not_after = omega (arith, w.around.once n, counts n, times_head n (regions_ids w.regions))

  pub place_other : same_node place.node (Some n) ≡ false
  place_other = other_node place.node n (region_ids w.around.here) w.around.own here_once

  pub none_parts : IsNone place.node (nodes_ids w.before) × IsNone place.node (regions_ids w.regions) × IsNone place.node (nodes_ids w.after) × (same_node (Some n) place.node ≡ false)
  none_parts =
      let all = subst (IsNone place.node) ids_are w.around.own in
      let first = none_of_both place.node (nodes_ids w.before) ((n ∷ regions_ids w.regions) ++ nodes_ids w.after) all in
      let second = none_of_both place.node (n ∷ regions_ids w.regions) (nodes_ids w.after) first.1 in
      let third = none_of_rest place.node n (regions_ids w.regions) second.0 in
      (first.0, third.1, second.1, third.0)

  -- nodes before the node, and behind its regions
  before_outside : (f : Origin → Origin) (r : FlatRegion) → AreOutside n (w.around.before r) × AreOutside n (map (inputs_at place f) (in_nodes place w.before))
  before_outside f r =
      ((w.around.outside n here_once r).0, inputs_outside n place f (in_nodes place w.before) (nodes_outside n place w.before not_before place_other))

  after_outside : (f : Origin → Origin) (r : FlatRegion) → AreOutside n (map (inputs_at place f) (in_nodes place w.after)) × AreOutside n w.around.after
  after_outside f r =
      (inputs_outside n place f (in_nodes place w.after) (nodes_outside n place w.after not_after place_other), (w.around.outside n here_once r).1)

  -- regions with the numbers of the node's own
  abbrev pub HaveNumbers : RegionTrees → Type 0
  HaveNumbers rs = regions_ids rs ≡ regions_ids w.regions

  regions_are_apart : (rs : RegionTrees) → HaveNumbers rs → AreApart place (in_regions n 0 rs)
  regions_are_apart rs h = regions_apart place n 0 rs none_parts.3 (subst (IsNone place.node) (sym h) none_parts.1)

  -- ---- the node is found, and changed

  pub node_found : (f : Origin → Origin) (r : FlatRegion) (x : FlatNode) (rest : List FlatNode) → x.id ≡ n →
      found n (w.around.before r ++ (map (inputs_at place f) (in_nodes place w.before) ++ (x ∷ rest))) ≡ Some x
  node_found f r x rest e =
      let o = before_outside f r in
      found_past n (w.around.before r) (map (inputs_at place f) (in_nodes place w.before) ++ (x ∷ rest)) o.0
      ∙ found_past n (map (inputs_at place f) (in_nodes place w.before)) (x ∷ rest) o.1 ∙ found_here n x rest e

  pub node_changed : (g : FlatNode → FlatNode) (f : Origin → Origin) (r : FlatRegion) (x : FlatNode) (rest : List FlatNode) → x.id ≡ n →
      node_with n g (w.around.before r ++ (map (inputs_at place f) (in_nodes place w.before) ++ (x ∷ rest)))
      ≡ w.around.before r ++ (map (inputs_at place f) (in_nodes place w.before) ++ (g x ∷ rest))
  node_changed g f r x rest e =
      let o = before_outside f r in
      let bs = map (inputs_at place f) (in_nodes place w.before) in
      node_with_past n g (w.around.before r) (bs ++ (x ∷ rest)) o.0
      ∙ ap (λ ys. w.around.before r ++ ys) (node_with_past n g bs (x ∷ rest) o.1 ∙ ap (λ ys. bs ++ ys) (node_with_here n g x rest e))

  -- ---- changes

  -- uses in the region
  pub uses_are : (g f : Origin → Origin) (x : FlatNode) (rs : RegionTrees) → x.home ≡ place → HaveNumbers rs →
      uses_with place g (flat_with (record_now f) (nodes_now f x rs)) ≡ flat_with (record_now (λ o. g (f o))) (nodes_now (λ o. g (f o)) (record x { inputs = map g x.inputs }) rs)
  uses_are g f x rs home h =
      let r = record_now f in
      let bs = in_nodes place w.before in
      let xs = in_nodes place w.after in
      let a = w.around.apart r in
      let now : map (inputs_at place g) (w.around.before r ++ nodes_now f x rs) ≡ w.around.before r ++ nodes_now (λ o. g (f o)) (record x { inputs = map g x.inputs }) rs =
      map_both (inputs_at place g) (w.around.before r) (nodes_now f x rs)
      ∙ (λ i. inputs_apart place g (w.around.before r) a.0 i ++ map_both (inputs_at place g) (map (inputs_at place f) bs) (x ∷ rest_now f rs) i)
      ∙ (λ i. w.around.before r ++ (inputs_twice place g f bs i ++ (input_here place g x (ap (λ p. same_place p place) home ∙ same_place_self place) i
      ∷ map_both (inputs_at place g) (in_regions n 0 rs) (map (inputs_at place f) xs ++ w.around.after) i)))
      ∙ (λ i. w.around.before r ++ (map (inputs_at place (λ o. g (f o))) bs ++ (record x { inputs = map g x.inputs }
      ∷ (inputs_apart place g (in_regions n 0 rs) (regions_are_apart rs h) i ++ map_both (inputs_at place g) (map (inputs_at place f) xs) w.around.after i))))
      ∙ (λ i. w.around.before r ++ (map (inputs_at place (λ o. g (f o))) bs ++ (record x { inputs = map g x.inputs }
      ∷ (in_regions n 0 rs ++ (inputs_twice place g f xs i ++ inputs_apart place g w.around.after a.1 i))))) in
      ap (λ ys. region_with place (λ (s : FlatRegion). record s { results = map g s.results }) (with_nodes l (w.around.body r) ys)) now
      ∙ w.around.sets (λ (s : FlatRegion). record s { results = map g s.results }) r (nodes_now (λ o. g (f o)) (record x { inputs = map g x.inputs }) rs)
      ∙ (λ i. flat_with (record { args = w.args; results = map_map g f w.results i }) (nodes_now (λ o. g (f o)) (record x { inputs = map g x.inputs }) rs))

  pub state_uses : (g f : Origin → Origin) (outputs : List Kind) (inputs : List Origin) (rs : RegionTrees) → HaveNumbers rs →
      uses_with place g (state f outputs inputs rs) ≡ state (λ o. g (f o)) outputs (map g inputs) rs
  state_uses g f outputs inputs rs h = uses_are g f (node_now outputs inputs rs) rs refl h

  -- an output goes
  pub state_output : (k : ℕ) (f : Origin → Origin) (outputs : List Kind) (inputs : List Origin) (rs : RegionTrees) → HaveNumbers rs →
      output_removed n k (state f outputs inputs rs)
      ≡ state (λ o. output_less n k (length outputs) (f o)) (remove outputs k) (map (output_less n k (length outputs)) inputs) rs
  state_output k f outputs inputs rs h =
      let x = node_now outputs inputs rs in
      let g = output_less n k (length outputs) in
      ap (λ o. outputs_follow o k (state f outputs inputs rs)) (node_found f (record_now f) x (rest_now f rs) refl)
      ∙ ap (λ ys. uses_with place g (with_nodes l (w.around.body (record_now f)) ys)) (node_changed (λ (y : FlatNode). record y { outputs = remove y.outputs k }) f (record_now f) x (rest_now f rs) refl)
      ∙ uses_are g f (node_now (remove outputs k) inputs rs) rs refl h

  -- an input goes
  pub state_input : (k : ℕ) (f : Origin → Origin) (outputs : List Kind) (inputs : List Origin) (rs : RegionTrees) →
      input_removed n k (state f outputs inputs rs) ≡ state f outputs (remove inputs k) rs
  state_input k f outputs inputs rs =
      ap (λ ys. with_nodes l (w.around.body (record_now f)) ys)
      (node_changed (λ (y : FlatNode). record y { inputs = remove y.inputs k }) f (record_now f) (node_now outputs inputs rs) (rest_now f rs) refl)

  -- a result of one of its regions goes
  pub state_result : (k j : ℕ) (f : Origin → Origin) (outputs : List Kind) (inputs : List Origin) (rs : RegionTrees) →
      result_removed (place_in n j) k (state f outputs inputs rs) ≡ state f outputs inputs (regions_with j (result_gone k) rs)
  state_result k j f outputs inputs rs =
      ap (λ ys. with_nodes l (w.around.body (record_now f)) ys)
      (node_changed (region_set j (λ (r : FlatRegion). record r { results = remove r.results k })) f (record_now f) (node_now outputs inputs rs) (rest_now f rs) refl)
      ∙ (λ i. flat_with (record_now f) (map (inputs_at place f) (in_nodes place w.before) ++ (record (node_now outputs inputs rs) { regions = sym (result_records k j rs) i }
      ∷ (sym (result_nodes k j n 0 rs) i ++ (map (inputs_at place f) (in_nodes place w.after) ++ w.around.after)))))

  -- an argument of one of its regions goes
  pub state_argument : (k j : ℕ) (f : Origin → Origin) (outputs : List Kind) (inputs : List Origin) (rs : RegionTrees) → HaveNumbers rs → j < count_of rs →
      argument_removed (place_in n j) k (state f outputs inputs rs) ≡ state f outputs inputs (regions_with j (argument_gone k) rs)
  state_argument k j f outputs inputs rs h within =
      let o = region_of j rs within in
      let x = node_now outputs inputs rs in
      let c = length o.args in
      let g = argument_less k c in
      let p = place_in n j in
      let r = record_now f in
      let y = record x { regions = at_with j (λ (s : FlatRegion). record s { args = remove s.args k }) x.regions } in
      let gone : RegionTree → RegionTree = λ s. region (remove o.args k) (nodes_redirected g o.nodes) (map g o.results) in
      let out = before_outside f r in
      let aft = after_outside f r in
      let bs = map (inputs_at place f) (in_nodes place w.before) in
      let xs = map (inputs_at place f) (in_nodes place w.after) in
      let at : region_at p (state f outputs inputs rs) ≡ Some (record { args = o.args; results = o.results }) =
      ap (option_and_then (λ (v : FlatNode). slice_get v.regions j)) (node_found f r x (rest_now f rs) refl) ∙ o.gets in
      let mapped : (v : FlatNode) → v.id ≡ n → v.home ≡ place → map (inputs_at p g) (w.around.before r ++ (bs ++ (v ∷ rest_now f rs)))
      ≡ w.around.before r ++ (bs ++ (v ∷ (in_regions n 0 (regions_with j (nodes_with g) rs) ++ (xs ++ w.around.after)))) =
      λ v e q. map_both (inputs_at p g) (w.around.before r) (bs ++ (v ∷ rest_now f rs))
      ∙ (λ i. inputs_apart p g (w.around.before r) (outside_apart n j (w.around.before r) out.0) i ++ map_both (inputs_at p g) bs (v ∷ rest_now f rs) i)
      ∙ (λ i. w.around.before r ++ (inputs_apart p g bs (outside_apart n j bs out.1) i ++ (input_apart p g v (ap (λ (u : Place). same_place u p) q ∙ place_apart n j place place_other) i
      ∷ map_both (inputs_at p g) (in_regions n 0 rs) (xs ++ w.around.after) i)))
      ∙ (λ i. w.around.before r ++ (bs ++ (v ∷ (inputs_first n j g rs (ap (times n) h ∙ not_nested) i ++ map_both (inputs_at p g) xs w.around.after i))))
      ∙ (λ i. w.around.before r ++ (bs ++ (v ∷ (in_regions n 0 (regions_with j (nodes_with g) rs)
      ++ (inputs_apart p g xs (outside_apart n j xs aft.0) i ++ inputs_apart p g w.around.after (outside_apart n j w.around.after aft.1) i))))) in
      let now : regions_with j (argument_gone k) rs ≡ regions_with j (λ s. gone s) rs = o.is (argument_gone k) in
      let last = region_set j (λ (s : FlatRegion). record s { results = map g s.results }) y in
      let records : last.regions ≡ regions_flat (regions_with j (argument_gone k) rs) =
      argument_records k j c rs ∙ at_with_at j (λ (s : FlatRegion). record { args = remove s.args k; results = map g s.results }) (record { args = o.args; results = o.results }) (regions_flat rs) o.gets
      ∙ sym (records_with j (λ (s : FlatRegion). record { args = remove o.args k; results = map g o.results }) gone (λ s. refl) rs) ∙ ap regions_flat (sym now) in
      let nodes : in_regions n 0 (regions_with j (nodes_with g) rs) ≡ in_regions n 0 (regions_with j (argument_gone k) rs) =
      ap (in_regions n 0) (o.is (nodes_with g)) ∙ nodes_alone j n 0 (λ s. nodes_with g (region o.args o.nodes o.results)) gone (λ q s. refl) rs ∙ ap (in_regions n 0) (sym now) in
      ap (λ s. arguments_follow s p k (state f outputs inputs rs)) at
      ∙ ap (λ ys. uses_with p g (with_nodes l (w.around.body r) ys)) (node_changed (region_set j (λ (s : FlatRegion). record s { args = remove s.args k })) f r x (rest_now f rs) refl)
      ∙ ap (λ ys. region_with p (λ (s : FlatRegion). record s { results = map g s.results }) (with_nodes l (w.around.body r) ys)) (mapped y refl refl)
      ∙ ap (λ ys. with_nodes l (w.around.body r) ys)
      (node_changed (region_set j (λ (s : FlatRegion). record s { results = map g s.results })) f r y (in_regions n 0 (regions_with j (nodes_with g) rs) ++ (xs ++ w.around.after)) refl)
      ∙ (λ i. flat_with r (bs ++ (record x { regions = records i } ∷ (nodes i ++ (xs ++ w.around.after)))))

  -- ---- the list of nodes at the start, and behind changes

  regroup : (b : List FlatNode) (x : FlatNode) (m a q : List FlatNode) → (b ++ ((x ∷ m) ++ a)) ++ q ≡ b ++ (x ∷ (m ++ (a ++ q)))
  regroup b x m a q = append_assoc b ((x ∷ m) ++ a) q ∙ ap (λ ys. b ++ (x ∷ ys)) (append_assoc m a q)

  laid : (r : FlatRegion) (inputs : List Origin) (rs : RegionTrees) (ends : NodeTrees) →
      w.around.before r ++ (in_nodes place (joined_nodes w.before (node_then (node n w.op inputs rs) ends)) ++ w.around.after)
      ≡ w.around.before r ++ (in_nodes place w.before ++ (node_now (kinds_of (outputs_of w.op rs)) inputs rs ∷ (in_regions n 0 rs ++ (in_nodes place ends ++ w.around.after))))
  laid r inputs rs ends =
      ap (λ ys. w.around.before r ++ (ys ++ w.around.after)) (in_nodes-joined place w.before (node_then (node n w.op inputs rs) ends))
      ∙ ap (λ ys. w.around.before r ++ ys) (regroup (in_nodes place w.before) (node_now (kinds_of (outputs_of w.op rs)) inputs rs) (in_regions n 0 rs) (in_nodes place ends) w.around.after)

  pub start_laid : flat_of l ≡ flat_with (record { args = w.args; results = w.results })
      (in_nodes place w.before ++ (node_now (kinds_of (outputs_of w.op w.regions)) w.inputs w.regions ∷ (in_regions n 0 w.regions ++ (in_nodes place w.after ++ w.around.after))))
  start_laid =
      let r : FlatRegion = record { args = w.args; results = w.results } in
      ap (λ b. flat_of (record l { body = b })) (sym w.around.is) ∙ w.around.flat_is w.around.here (record { args = refl; results = refl })
      ∙ ap (λ s. with_nodes l (w.around.body (region_flat s)) (w.around.before (region_flat s) ++ (in_region place s ++ w.around.after))) w.is
      ∙ ap (with_nodes l (w.around.body r)) (laid r w.inputs w.regions w.after)

  pub state_start : flat_of l ≡ state (λ o. o) (kinds_of (outputs_of w.op w.regions)) w.inputs w.regions
  state_start =
      let x = node_now (kinds_of (outputs_of w.op w.regions)) w.inputs w.regions in
      start_laid
      ∙ (λ i. flat_with (record { args = w.args; results = sym (map_id w.results) i })
      (sym (inputs_id place (in_nodes place w.before)) i ++ (x ∷ (in_regions n 0 w.regions ++ (sym (inputs_id place (in_nodes place w.after)) i ++ w.around.after)))))

  -- the region, where the node has other inputs and regions, and what follows it has other uses
  abbrev pub region_now : (Origin → Origin) → (inputs : List Origin) → RegionTrees → RegionTree
  region_now f inputs rs = region w.args (joined_nodes w.before (node_then (node n w.op inputs rs) (nodes_redirected f w.after))) (map f w.results)

  pub state_end : (f : Origin → Origin) (inputs : List Origin) (rs : RegionTrees) → IsAlike w.around.here (region_now f inputs rs) →
      map (inputs_at place f) (in_nodes place w.before) ≡ in_nodes place w.before →
      state f (kinds_of (outputs_of w.op rs)) inputs rs ≡ flat_of (record l { body = w.around.fill (region_now f inputs rs) })
  state_end f inputs rs alike unread =
      let x = node_now (kinds_of (outputs_of w.op rs)) inputs rs in
      (λ i. flat_with (record_now f) (unread i ++ (x ∷ (in_regions n 0 rs ++ (inputs_nodes place f w.after none_parts.2 i ++ w.around.after)))))
      ∙ ap (with_nodes l (w.around.body (record_now f))) (sym (laid (record_now f) inputs rs (nodes_redirected f w.after)))
      ∙ sym (w.around.flat_is (region_now f inputs rs) alike)
