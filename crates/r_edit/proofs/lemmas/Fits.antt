-- A copy under numbers of which no two become one is well formed where the copied region is.
use Rattle.std.specs.Prelude.{not, ◌||◌, if◌then◌else◌}
use Rattle.std.proofs.Common.{◌≡◌, ℕ, ◌+◌, ◌==◌, Bool, true, false, ◌&&◌, List, [], ◌∷◌, ◌++◌, map, length, slice_get, Option, None, Some, option_map, refl, sym, ap, ap₂, ◌∙◌, arith}
use Rattle.std.proofs.lemmas.Bool.Decides.{nat_tests}
use Rattle.std.proofs.lemmas.List.{length-map, map-append}
use Rattle.g_graph.specs.declared.op.Kind.{Kind}
use Rattle.g_graph.specs.declared.op.Kind.TheVariants.{Value, Memory, Io}
use Rattle.g_graph.specs.declared.op.Op.{Op}
use Rattle.g_graph.specs.declared.op.Op.TheVariants.{Local, Load, Store, Clear, Apply, Gamma, Theta}
use Rattle.g_graph.specs.declared.op.Origin.{Origin}
use Rattle.g_graph.specs.declared.op.Origin.TheVariants.{Arg, Out}
use Rattle.g_graph.specs.Plain.{RegionTree, region, NodeTree, node, NodeTrees, no_nodes, node_then, RegionTrees, no_regions, region_then, nodes_of, args_of, nodes_in}
use Rattle.g_graph.specs.Count.{region_values, nodes_values, regions_values}
use Rattle.g_graph.specs.Ids.{region_ids}
use Rattle.g_graph.specs.Signatures.{first_args, inputs_of, kind_of, outputs_of, result_kinds, kind_after, joined}
use Rattle.g_graph.specs.Scope.{same_kind, is_of, same_origin, known, last_index, origin_at, state_after, each_node}
use Rattle.g_graph.specs.WellFormed.{all_of, some_of, all_regions, are, same, kinds_of, one_state_each, has_its_regions, regions_fit, theta_has_states, has_its_width, has_its_object, is_origin, is_last_of, is_last, node_fits, gives, returns_state, region_fits, every_region, every_in_nodes, every_in_regions}
use Rattle.g_mean.specs.Copies.{renumbered, region_copied, node_moved, nodes_moved, regions_copied}
use Rattle.r_edit.specs.CopyLaws.{CopiesFit, CopiesCountTheSame}
use Rattle.r_edit.specs.Numbering.{number_from, region_numbered}
use Rattle.r_edit.proofs.lemmas.Numbering.{number_from-one}

module _ (to : ℕ → ℕ) (one : (m n : ℕ) → to m ≡ to n → m ≡ n) where
  number-same : (m n : ℕ) → (to m == to n) ≡ (m == n)
  number-same m n = by (to m == to n) refl (m == n) refl
    where
      by : (s : Bool) → (to m == to n) ≡ s → (t : Bool) → (m == n) ≡ t → s ≡ t
      by true p true q = refl
      by false p false q = refl
      by true p false q =
          let equal : to m ≡ to n = grind (arith, nat_tests) in
          let back = one m n equal in
          absurd (grind (arith, nat_tests))
      by false p true q =
          let equal : m ≡ n = grind (arith, nat_tests) in
          let forth : to m ≡ to n = ap to equal in
          absurd (grind (arith, nat_tests))

  origin-same : (a b : Origin) → same_origin (renumbered to a) (renumbered to b) ≡ same_origin a b
  origin-same (Arg j) (Arg k) = refl
  origin-same (Arg j) (Out n p) = refl
  origin-same (Out n p) (Arg k) = refl
  origin-same (Out n p) (Out m q) = ap (λ t. t && (p == q)) (number-same n m)

  -- ---- kinds

  first-same : (rs : RegionTrees) → first_args (regions_copied to rs) ≡ first_args rs
  first-same no_regions = refl
  first-same (region_then (region args nodes results) rs) = refl

  all-kinds : (args : List Kind) (ns : NodeTrees) (origins : List Origin) →
      ((n p : ℕ) → kind_after (nodes_moved (renumbered to) to ns) (to n) p None ≡ kind_after ns n p None) →
      map (kind_of args (λ n p. kind_after (nodes_moved (renumbered to) to ns) n p None)) (map (renumbered to) origins) ≡ map (kind_of args (λ n p. kind_after ns n p None)) origins
  all-kinds args ns [] h = refl
  all-kinds args ns (Arg k ∷ origins) h = ap (λ xs. slice_get args k ∷ xs) (all-kinds args ns origins h)
  all-kinds args ns (Out n p ∷ origins) h = ap₂ (λ x xs. x ∷ xs) (h n p) (all-kinds args ns origins h)

  mutual
    pub results-same : (r : RegionTree) → result_kinds (region_copied to r) ≡ result_kinds r
    results-same (region args nodes results) = all-kinds args nodes results (λ n p. kind-same (renumbered to) nodes n p None)

    outputs-same : (op : Op) (rs : RegionTrees) → outputs_of op (regions_copied to rs) ≡ outputs_of op rs
    outputs-same Gamma no_regions = refl
    outputs-same Gamma (region_then r rs) = results-same r
    outputs-same Theta rs = ap (map Some) (first-same rs)
    outputs-same _ rs = refl

    pub kind-same : (move : Origin → Origin) (ns : NodeTrees) (n p : ℕ) (before : Option Kind) → kind_after (nodes_moved move to ns) (to n) p before ≡ kind_after ns n p before
    kind-same move no_nodes n p before = refl
    kind-same move (node_then (node id op inputs rs) ns) n p before =
        (λ i. kind_after (nodes_moved move to ns) (to n) p (if number-same id n i then joined (slice_get (outputs-same op rs i) p) else before))
        ∙ kind-same move ns n p (if id == n then joined (slice_get (outputs_of op rs) p) else before)

  -- ---- states

  moved-at : (id : ℕ) (found : Option ℕ) (before : Option Origin) →
      option_map (renumbered to) (origin_at (λ p. Out id p) found before) ≡ origin_at (λ p. Out (to id) p) found (option_map (renumbered to) before)
  moved-at id None before = refl
  moved-at id (Some p) before = refl

  argument-at : (found : Option ℕ) → option_map (renumbered to) (origin_at Arg found None) ≡ origin_at Arg found None
  argument-at None = refl
  argument-at (Some p) = refl

  state-same : (move : Origin → Origin) (k : Kind) (ns : NodeTrees) (found : Option Origin) →
      state_after k (nodes_moved move to ns) (option_map (renumbered to) found) ≡ option_map (renumbered to) (state_after k ns found)
  state-same move k no_nodes found = refl
  state-same move k (node_then (node id op inputs rs) ns) found =
      (λ i. state_after k (nodes_moved move to ns) (origin_at (λ p. Out (to id) p) (last_index k 0 (outputs-same op rs i) None) (option_map (renumbered to) found)))
      ∙ ap (state_after k (nodes_moved move to ns)) (sym (moved-at id (last_index k 0 (outputs_of op rs) None) found))
      ∙ state-same move k ns (origin_at (λ p. Out id p) (last_index k 0 (outputs_of op rs) None) found)

  is-origin-same : (found : Option Origin) (a : Origin) → is_origin (option_map (renumbered to) found) (renumbered to a) ≡ is_origin found a
  is-origin-same None a = refl
  is-origin-same (Some b) a = origin-same b a

  known-same : (args : List Kind) (ns : NodeTrees) (a : Origin) → known args (nodes_moved (renumbered to) to ns) (renumbered to a) ≡ known args ns a
  known-same args ns (Arg k) = refl
  known-same args ns (Out n p) = kind-same (renumbered to) ns n p None

  last-same : (args : List Kind) (k : Kind) (ns : NodeTrees) (a : Origin) (start : Option ℕ) →
      is_origin (state_after k (nodes_moved (renumbered to) to ns) (origin_at Arg start None)) (renumbered to a) ≡ is_origin (state_after k ns (origin_at Arg start None)) a
  last-same args k ns a start =
      ap (λ o. is_origin (state_after k (nodes_moved (renumbered to) to ns) o) (renumbered to a)) (sym (argument-at start))
      ∙ ap (λ o. is_origin o (renumbered to a)) (state-same (renumbered to) k ns (origin_at Arg start None)) ∙ is-origin-same (state_after k ns (origin_at Arg start None)) a

  last-of-same : (found : Option Kind) (args : List Kind) (ns : NodeTrees) (a : Origin) →
      is_last_of found args (nodes_moved (renumbered to) to ns) (renumbered to a) ≡ is_last_of found args ns a
  last-of-same None args ns a = refl
  last-of-same (Some Value) args ns a = refl
  last-of-same (Some Memory) args ns a = last-same args Memory ns a (last_index Memory 0 (map Some args) None)
  last-of-same (Some Io) args ns a = last-same args Io ns a (last_index Io 0 (map Some args) None)

  is-last-same : (args : List Kind) (ns : NodeTrees) (a : Origin) → is_last args (nodes_moved (renumbered to) to ns) (renumbered to a) ≡ is_last args ns a
  is-last-same args ns a =
      ap (λ k. is_last_of k args (nodes_moved (renumbered to) to ns) (renumbered to a)) (known-same args ns a) ∙ last-of-same (known args ns a) args ns a

  all-last : (args : List Kind) (ns : NodeTrees) (origins : List Origin) →
      all_of (is_last args (nodes_moved (renumbered to) to ns)) (map (renumbered to) origins) ≡ all_of (is_last args ns) origins
  all-last args ns [] = refl
  all-last args ns (a ∷ origins) = ap₂ (λ s t. s && t) (is-last-same args ns a) (all-last args ns origins)

  all-known : (args : List Kind) (ns : NodeTrees) (origins : List Origin) → map (known args (nodes_moved (renumbered to) to ns)) (map (renumbered to) origins) ≡ map (known args ns) origins
  all-known args ns [] = refl
  all-known args ns (a ∷ origins) = ap₂ (λ x xs. x ∷ xs) (known-same args ns a) (all-known args ns origins)

  gives-same : (move : Origin → Origin) (k : Kind) (ns : NodeTrees) → gives k (nodes_moved move to ns) ≡ gives k ns
  gives-same move k no_nodes = refl
  gives-same move k (node_then (node id op inputs rs) ns) = ap₂ (λ ks t. some_of (is_of k) ks || t) (outputs-same op rs) (gives-same move k ns)

  -- ---- nodes

  shape-same : (id m : ℕ) (op : Op) (is js : List Origin) (rs : RegionTrees) → has_its_regions (node m op js (regions_copied to rs)) ≡ has_its_regions (node id op is rs)
  shape-same id m Gamma is js no_regions = refl
  shape-same id m Gamma is js (region_then r rs) = refl
  shape-same id m Theta is js no_regions = refl
  shape-same id m Theta is js (region_then r no_regions) = refl
  shape-same id m Theta is js (region_then r (region_then t rs)) = refl
  shape-same id m _ is js no_regions = refl
  shape-same id m _ is js (region_then r rs) = refl

  args-same : (r : RegionTree) → args_of (region_copied to r) ≡ args_of r
  args-same (region args nodes results) = refl

  all-gamma : (first : List Kind) (exits : List (Option Kind)) (rs : RegionTrees) →
      all_regions (λ r. same (args_of r) first && are (result_kinds r) (kinds_of exits)) (regions_copied to rs) ≡ all_regions (λ r. same (args_of r) first && are (result_kinds r) (kinds_of exits)) rs
  all-gamma first exits no_regions = refl
  all-gamma first exits (region_then r rs) =
      λ i. (same (args-same r i) first && are (results-same r i) (kinds_of exits)) && all-gamma first exits rs i

  all-theta : (rs : RegionTrees) → all_regions (λ r. are (result_kinds r) (Value ∷ args_of r)) (regions_copied to rs) ≡ all_regions (λ r. are (result_kinds r) (Value ∷ args_of r)) rs
  all-theta no_regions = refl
  all-theta (region_then r rs) = λ i. are (results-same r i) (Value ∷ args-same r i) && all-theta rs i

  regions-fit-same : (id m : ℕ) (op : Op) (is js : List Origin) (rs : RegionTrees) → regions_fit (node m op js (regions_copied to rs)) ≡ regions_fit (node id op is rs)
  regions-fit-same id m Gamma is js rs =
      (λ i.
      all_regions (λ r. same (args_of r) (first-same rs i) && are (result_kinds r) (kinds_of (outputs-same Gamma rs i))) (regions_copied to rs))
      ∙ all-gamma (first_args rs) (outputs_of Gamma rs) rs
  regions-fit-same id m Theta is js rs = all-theta rs
  regions-fit-same id m _ is js rs = refl

  all-states : (rs : RegionTrees) →
      all_regions (λ r. some_of (same_kind Memory) (args_of r) && some_of (same_kind Io) (args_of r)) (regions_copied to rs)
      ≡ all_regions (λ r. some_of (same_kind Memory) (args_of r) && some_of (same_kind Io) (args_of r)) rs
  all-states no_regions = refl
  all-states (region_then r rs) = λ i. (some_of (same_kind Memory) (args-same r i) && some_of (same_kind Io) (args-same r i)) && all-states rs i

  states-same : (id m : ℕ) (op : Op) (is js : List Origin) (rs : RegionTrees) → theta_has_states (node m op js (regions_copied to rs)) ≡ theta_has_states (node id op is rs)
  states-same id m Theta is js rs = all-states rs
  states-same id m _ is js rs = refl

  width-same : (id m : ℕ) (op : Op) (is js : List Origin) (rs ss : RegionTrees) → has_its_width (node m op js ss) ≡ has_its_width (node id op is rs)
  width-same id m (Load w) is js rs ss = refl
  width-same id m (Store w) is js rs ss = refl
  width-same id m _ is js rs ss = refl

  object-same : (objects id m : ℕ) (op : Op) (is js : List Origin) (rs ss : RegionTrees) → has_its_object objects (node m op js ss) ≡ has_its_object objects (node id op is rs)
  object-same objects id m (Local k) is js rs ss = refl
  object-same objects id m (Clear k) is js rs ss = refl
  object-same objects id m _ is js rs ss = refl

  inputs-same : (op : Op) (count other : ℕ) → other ≡ count → (rs : RegionTrees) → inputs_of op other (regions_copied to rs) ≡ inputs_of op count rs
  inputs-same (Apply f) count other e rs = ap (λ n. inputs_of (Apply f) n rs) e
  inputs-same Gamma count other e rs = ap (λ ks. Value ∷ ks) (first-same rs)
  inputs-same Theta count other e rs = first-same rs
  inputs-same _ count other e rs = refl

  node-same : (objects : ℕ) (args : List Kind) (before : NodeTrees) (x : NodeTree) →
      node_fits objects args (nodes_moved (renumbered to) to before) (node_moved (renumbered to) to x) ≡ node_fits objects args before x
  node-same objects args before (node id op inputs rs) =
      λ i.
      are (all-known args before inputs i) (inputs-same op (length inputs) (length (map (renumbered to) inputs)) (length-map inputs (renumbered to)) rs i)
      && all-last args before inputs i
      && (one_state_each (all-known args before inputs i) && one_state_each (outputs-same op rs i))
      && shape-same id (to id) op inputs (map (renumbered to) inputs) rs i
      && regions-fit-same id (to id) op inputs (map (renumbered to) inputs) rs i
      && states-same id (to id) op inputs (map (renumbered to) inputs) rs i
      && width-same id (to id) op inputs (map (renumbered to) inputs) rs (regions_copied to rs) i
      && object-same objects id (to id) op inputs (map (renumbered to) inputs) rs (regions_copied to rs) i

  moved-list : (bs : List NodeTree) → nodes_of (map (node_moved (renumbered to) to) bs) ≡ nodes_moved (renumbered to) to (nodes_of bs)
  moved-list [] = refl
  moved-list (x ∷ bs) = ap (λ ns. node_then (node_moved (renumbered to) to x) ns) (moved-list bs)

  each-same : (objects : ℕ) (args : List Kind) (before : List NodeTree) (ns : NodeTrees) →
      each_node (node_fits objects args) (map (node_moved (renumbered to) to) before) (nodes_moved (renumbered to) to ns) ≡ each_node (node_fits objects args) before ns
  each-same objects args before no_nodes = refl
  each-same objects args before (node_then x ns) =
      ap₂ (λ s t. s && t)
      (ap (λ ms. node_fits objects args ms (node_moved (renumbered to) to x)) (moved-list before) ∙ node-same objects args (nodes_of before) x)
      (ap (λ bs. each_node (node_fits objects args) bs (nodes_moved (renumbered to) to ns)) (sym (map-append (node_moved (renumbered to) to) before (x ∷ [])))
      ∙ each-same objects args (before ++ x ∷ []) ns)

  -- ---- regions

  returns-same : (k : Kind) (args : List Kind) (nodes : NodeTrees) (results : List Origin) →
      returns_state k (region_copied to (region args nodes results)) ≡ returns_state k (region args nodes results)
  returns-same k args nodes results =
      λ i. not (gives-same (renumbered to) k nodes i) || some_of (is_of k) (results-same (region args nodes results) i)

  fits-same : (objects : ℕ) (r : RegionTree) → region_fits objects (region_copied to r) ≡ region_fits objects r
  fits-same objects (region args nodes results) =
      λ i.
      each-same objects args [] nodes i && all-last args nodes results i && returns-same Memory args nodes results i && returns-same Io args nodes results i
      && (one_state_each (map Some args) && one_state_each (results-same (region args nodes results) i))

  mutual
    pub every-same : (objects : ℕ) (r : RegionTree) → every_region (region_fits objects) (region_copied to r) ≡ every_region (region_fits objects) r
    every-same objects (region args nodes results) =
        ap₂ (λ s t. s && t) (fits-same objects (region args nodes results)) (every-nodes-same (renumbered to) objects nodes)

    every-nodes-same : (move : Origin → Origin) (objects : ℕ) (ns : NodeTrees) → every_in_nodes (region_fits objects) (nodes_moved move to ns) ≡ every_in_nodes (region_fits objects) ns
    every-nodes-same move objects no_nodes = refl
    every-nodes-same move objects (node_then (node id op inputs rs) ns) = ap₂ (λ s t. s && t) (every-regions-same objects rs) (every-nodes-same move objects ns)

    every-regions-same : (objects : ℕ) (rs : RegionTrees) → every_in_regions (region_fits objects) (regions_copied to rs) ≡ every_in_regions (region_fits objects) rs
    every-regions-same objects no_regions = refl
    every-regions-same objects (region_then r rs) = ap₂ (λ s t. s && t) (every-same objects r) (every-regions-same objects rs)

  -- ---- values

  mutual
    pub values-same : (r : RegionTree) → region_values (region_copied to r) ≡ region_values r
    values-same (region args nodes results) =
        ap₂ (λ m n. 1 + length args + m + n) (nodes-values-same (renumbered to) nodes) (length-map results (renumbered to))

    pub nodes-values-same : (move : Origin → Origin) (ns : NodeTrees) → nodes_values (nodes_moved move to ns) ≡ nodes_values ns
    nodes-values-same move no_nodes = refl
    nodes-values-same move (node_then (node id op inputs rs) ns) =
        ap₂ (λ m n. m + n) (ap₂ (λ ks n. 1 + length ks + n) (outputs-same op rs) (regions-values-same rs)) (nodes-values-same move ns)

    regions-values-same : (rs : RegionTrees) → regions_values (regions_copied to rs) ≡ regions_values rs
    regions-values-same no_regions = refl
    regions-values-same (region_then r rs) = ap₂ (λ m n. m + n) (values-same r) (regions-values-same rs)

-- ---- numbered copies

pub copies_fit : CopiesFit
copies_fit objects next (region args nodes results) =
    let to = number_from next (region_ids (region args nodes results)) in
    let one = number_from-one next (region_ids (region args nodes results)) in
    record { args = refl; results = results-same to one (region args nodes results); inside = every-same to one objects (region args nodes results) }

pub copies_count_the_same : CopiesCountTheSame
copies_count_the_same next r = values-same (number_from next (region_ids r)) (number_from-one next (region_ids r)) r

pub copied-nodes-values : (next : ℕ) (r : RegionTree) → nodes_values (nodes_in (region_numbered next r)) ≡ nodes_values (nodes_in r)
copied-nodes-values next (region args nodes results) =
    let r = region args nodes results in
    nodes-values-same (number_from next (region_ids r)) (number_from-one next (region_ids r)) (renumbered (number_from next (region_ids r))) nodes
