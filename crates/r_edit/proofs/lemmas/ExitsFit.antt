-- A Gamma without some of its exit variables fits in its place.
use Rattle.std.proofs.Common.{◌≡◌, ℕ, ◌==◌, cond, Some, Bool, true, false, not, ◌&&◌, ◌||◌, List, ◌∷◌, ◌++◌, map, refl, sym, ap, subst, ◌∙◌, arith}
use Rattle.std.proofs.lemmas.Bool.{and_parts}
use Rattle.g_graph.specs.declared.op.Kind.{Kind}
use Rattle.g_graph.specs.declared.op.Kind.TheVariants.{Value, Memory, Io}
use Rattle.g_graph.specs.declared.op.Op.TheVariants.{Gamma}
use Rattle.g_graph.specs.declared.op.Op.{Op}
use Rattle.g_graph.specs.declared.op.Origin.{Origin}
use Rattle.g_graph.specs.Plain.{RegionTree, region, NodeTree, node, NodeTrees, no_nodes, node_then, RegionTrees, no_regions, region_then, id_of, args_of}
use Rattle.g_graph.specs.Ids.{nodes_ids, regions_ids}
use Rattle.g_graph.specs.Signatures.{first_args, result_kinds, outputs_of}
use Rattle.g_graph.specs.Scope.{is_of, known}
use Rattle.g_graph.specs.WellFormed.{some_of, all_regions, are, same, one_state_each, gives, kinds_of, is_last, has_its_regions, inputs_fit, inputs_are_last}
use Rattle.g_graph.specs.WellFormed.{node_has_one_state_each, regions_fit, node_fits, nodes_fit, results_are_last, returns_state, region_has_one_state_each, region_fits, every_region, every_in_node, every_in_nodes, every_in_regions}
use Rattle.g_graph.specs.Replace.{nodes_redirected}
use Rattle.g_graph.specs.Splice.{joined_nodes}
use Rattle.g_graph.specs.Lists.{RegionOps, NodeOps, NodesOps, RegionsOps}
use Rattle.g_graph.proofs.lemmas.Indexes.{same_number_true}
use Rattle.g_graph.proofs.lemmas.Nodes.{NodeFits, KeptWithin, are_kinds}
use Rattle.g_graph.proofs.lemmas.Ops.{redirected_ops}
use Rattle.g_graph.proofs.lemmas.Unique.{times}
use Rattle.r_edit.specs.Uses.{is_read}
use Rattle.r_edit.specs.Places.{kept, drops_values}
use Rattle.r_edit.specs.Exits.{regions_giving, node_giving, output_after, is_gone_output, nodes_giving, exits_kept}
use Rattle.g_graph.proofs.lemmas.KindLists.{are_themselves, kinds_of_some}
use Rattle.r_edit.proofs.lemmas.Kept.{kept_map, all_kept, memory, io, some_state, states_kept}
use Rattle.r_edit.proofs.lemmas.Placed.{not_before}
use Rattle.r_edit.proofs.lemmas.Exits.{giving_joined}
use Rattle.r_edit.proofs.lemmas.Swapped.{swapped_kept}

module _ (stays : List Bool) where
  -- ---- what the node takes and gives

  pub first_args_same : (rs : RegionTrees) → first_args (regions_giving stays rs) ≡ first_args rs
  first_args_same no_regions = refl
  first_args_same (region_then (region args nodes results) rs) = refl

  pub gives_kept : (rs : RegionTrees) → outputs_of Gamma (regions_giving stays rs) ≡ kept stays (outputs_of Gamma rs)
  gives_kept no_regions = refl
  gives_kept (region_then (region args nodes results) rs) = kept_map stays (known args nodes) results

  pub ids_same : (rs : RegionTrees) → regions_ids (regions_giving stays rs) ≡ regions_ids rs
  ids_same no_regions = refl
  ids_same (region_then (region args nodes results) rs) = ap (λ ns. nodes_ids nodes ++ ns) (ids_same rs)

  pub shape_same : (id : ℕ) (inputs : List Origin) (rs : RegionTrees) → has_its_regions (node id Gamma inputs (regions_giving stays rs)) ≡ has_its_regions (node id Gamma inputs rs)
  shape_same id inputs no_regions = refl
  shape_same id inputs (region_then (region args nodes results) rs) = refl

  -- ---- its regions

  -- where every region gives the same kinds, it still does
  pub regions_give : (firsts : List Kind) (ks : List Kind) (rs : RegionTrees) → all_regions (λ r. same (args_of r) firsts && are (result_kinds r) ks) rs ≡ true →
      all_regions (λ r. same (args_of r) firsts && are (result_kinds r) (kept stays ks)) (regions_giving stays rs) ≡ true
  regions_give firsts ks no_regions e = refl
  regions_give firsts ks (region_then (region args nodes results) rs) e =
      let kinds = map (known args nodes) results in
      let both = and_parts (same args firsts && are kinds ks) (all_regions (λ r. same (args_of r) firsts && are (result_kinds r) ks) rs) e in
      let own = and_parts (same args firsts) (are kinds ks) both.0 in
      let given : map (known args nodes) (kept stays results) ≡ map Some (kept stays ks) =
      kept_map stays (known args nodes) results ∙ ap (kept stays) (are_kinds kinds ks own.1) ∙ sym (kept_map stays Some ks) in
      let now : are (map (known args nodes) (kept stays results)) (kept stays ks) ≡ true = ap (λ xs. are xs (kept stays ks)) given ∙ are_themselves (kept stays ks) in
      let rest = regions_give firsts ks rs both.1 in
      λ i. (own.0 i && now i) && rest i

  pub fits_inside : (objects : ℕ) (args : List Kind) (nodes : NodeTrees) (results : List Origin) → drops_values stays (map (known args nodes) results) ≡ true →
      every_region (region_fits objects) (region args nodes results) ≡ true → every_region (region_fits objects) (region args nodes (kept stays results)) ≡ true
  fits_inside objects args nodes results v e =
      let r = region args nodes results in
      let kinds = map (known args nodes) results in
      let own = (and_parts (region_fits objects r) (every_in_nodes (region_fits objects) nodes) e).0 in
      let nest = (and_parts (region_fits objects r) (every_in_nodes (region_fits objects) nodes) e).1 in
      let to_io = (and_parts (nodes_fit objects r && results_are_last r && returns_state Memory r && returns_state Io r) (region_has_one_state_each r) own).0 in
      let states = (and_parts (nodes_fit objects r && results_are_last r && returns_state Memory r && returns_state Io r) (region_has_one_state_each r) own).1 in
      let to_memory = (and_parts (nodes_fit objects r && results_are_last r && returns_state Memory r) (returns_state Io r) to_io).0 in
      let gives_io = (and_parts (nodes_fit objects r && results_are_last r && returns_state Memory r) (returns_state Io r) to_io).1 in
      let to_last = (and_parts (nodes_fit objects r && results_are_last r) (returns_state Memory r) to_memory).0 in
      let gives_memory = (and_parts (nodes_fit objects r && results_are_last r) (returns_state Memory r) to_memory).1 in
      let fit = (and_parts (nodes_fit objects r) (results_are_last r) to_last).0 in
      let last = all_kept (is_last args nodes) stays results (and_parts (nodes_fit objects r) (results_are_last r) to_last).1 in
      let given = kept_map stays (known args nodes) results in
      let memory_same : some_of (is_of Memory) (map (known args nodes) (kept stays results)) ≡ some_of (is_of Memory) kinds =
      ap (some_of (is_of Memory)) given ∙ some_state Memory memory stays kinds v in
      let io_same : some_of (is_of Io) (map (known args nodes) (kept stays results)) ≡ some_of (is_of Io) kinds = ap (some_of (is_of Io)) given ∙ some_state Io io stays kinds v in
      let memory_now : (not (gives Memory nodes) || some_of (is_of Memory) (map (known args nodes) (kept stays results))) ≡ true = ap (λ b. not (gives Memory nodes) || b) memory_same ∙ gives_memory in
      let io_now : (not (gives Io nodes) || some_of (is_of Io) (map (known args nodes) (kept stays results))) ≡ true = ap (λ b. not (gives Io nodes) || b) io_same ∙ gives_io in
      let states_now : (one_state_each (map Some args) && one_state_each (map (known args nodes) (kept stays results))) ≡ true =
      ap (λ b. one_state_each (map Some args) && b) (ap one_state_each given ∙ states_kept stays kinds v) ∙ states in
      λ i. fit i && last i && memory_now i && io_now i && states_now i && nest i

  regions_inside : (objects : ℕ) (firsts : List Kind) (ks : List Kind) (rs : RegionTrees) → drops_values stays (map Some ks) ≡ true →
      all_regions (λ r. same (args_of r) firsts && are (result_kinds r) ks) rs ≡ true → every_in_regions (region_fits objects) rs ≡ true →
      every_in_regions (region_fits objects) (regions_giving stays rs) ≡ true
  regions_inside objects firsts ks no_regions v e h = refl
  regions_inside objects firsts ks (region_then (region args nodes results) rs) v e h =
      let kinds = map (known args nodes) results in
      let both = and_parts (same args firsts && are kinds ks) (all_regions (λ r. same (args_of r) firsts && are (result_kinds r) ks) rs) e in
      let parts = and_parts (every_region (region_fits objects) (region args nodes results)) (every_in_regions (region_fits objects) rs) h in
      let own = fits_inside objects args nodes results (ap (drops_values stays) (are_kinds kinds ks (and_parts (same args firsts) (are kinds ks) both.0).1) ∙ v) parts.0 in
      let rest = regions_inside objects firsts ks rs v both.1 parts.1 in
      λ i. own i && rest i

  -- the kinds of the exit variables
  pub exits_are : (id : ℕ) (inputs : List Origin) (rs : RegionTrees) → regions_fit (node id Gamma inputs rs) ≡ true → outputs_of Gamma rs ≡ map Some (kinds_of (outputs_of Gamma rs))
  exits_are id inputs no_regions e = refl
  exits_are id inputs (region_then (region args nodes results) rs) e =
      let kinds = map (known args nodes) results in
      let both = and_parts (same args args && are kinds (kinds_of kinds)) (all_regions (λ r. same (args_of r) args && are (result_kinds r) (kinds_of kinds)) rs) e in
      are_kinds kinds (kinds_of kinds) (and_parts (same args args) (are kinds (kinds_of kinds)) both.0).1

  -- ---- the node in its place

  module _ (objects : ℕ) (args : List Kind) (before : NodeTrees) (id : ℕ) (inputs : List Origin) (rs : RegionTrees) (after : NodeTrees)
      (here : NodeFits objects args before (node id Gamma inputs rs) after) (values : drops_values stays (outputs_of Gamma rs) ≡ true) where
    abbrev x : NodeTree
    x = node id Gamma inputs rs

    abbrev y : NodeTree
    y = node id Gamma inputs (regions_giving stays rs)

    abbrev exits : List Kind
    exits = kinds_of (outputs_of Gamma rs)

    exits_now : kinds_of (outputs_of Gamma (regions_giving stays rs)) ≡ kept stays exits
    exits_now =
        ap kinds_of (gives_kept rs ∙ ap (kept stays) (exits_are id inputs rs here.regions) ∙ sym (kept_map stays Some exits)) ∙ kinds_of_some (kept stays exits)

    regions_fit_now : regions_fit y ≡ true
    regions_fit_now =
        (λ i. all_regions (λ r. same (args_of r) (first_args_same rs i) && are (result_kinds r) (exits_now i)) (regions_giving stays rs)) ∙ regions_give (first_args rs) exits rs here.regions

    node_fits_now : node_fits objects args before x ≡ true → node_fits objects args before y ≡ true
    node_fits_now e =
        let fits = inputs_fit args before x in
        let lasts = inputs_are_last args before x in
        let states = node_has_one_state_each args before x in
        let shape = has_its_regions x in
        let same_states : one_state_each (outputs_of Gamma (regions_giving stays rs)) ≡ one_state_each (outputs_of Gamma rs) =
        ap one_state_each (gives_kept rs) ∙ states_kept stays (outputs_of Gamma rs) values in
        let same_node : node_fits objects args before y ≡ node_fits objects args before x =
        λ i.
        are (map (known args before) inputs) (Value ∷ first_args_same rs i) && lasts && (one_state_each (map (known args before) inputs) && same_states i) && shape_same id inputs rs i
        && (regions_fit_now ∙ sym here.regions) i && true && true && true in
        same_node ∙ e

    inside_now : every_in_node (region_fits objects) x ≡ true → every_in_node (region_fits objects) y ≡ true
    inside_now e =
        regions_inside objects (first_args rs) exits rs (ap (drops_values stays) (sym (exits_are id inputs rs here.regions)) ∙ values) here.regions e

    pub exits_kept_fit : (results : List Origin) → every_region (region_fits objects) (region args (joined_nodes before (node_then x after)) results) ≡ true →
        is_read (is_gone_output id stays) (region args (joined_nodes before (node_then x after)) results) ≡ false →
        KeptWithin objects (region args (joined_nodes before (node_then x after)) results) (exits_kept id stays (region args (joined_nodes before (node_then x after)) results))
    exits_kept_fit results fits unread =
        subst (λ ns. KeptWithin objects (region args (joined_nodes before (node_then x after)) results) (region args ns (map (output_after id stays) results)))
        (sym (giving_joined stays id before x after (not_before objects args before x after here) (same_number_true id)))
        (swapped_kept objects args before x y after stays here refl (gives_kept rs) values results node_fits_now inside_now (λ m. omega (arith, ap (λ ns. times m (id ∷ ns)) (ids_same rs)))
        fits unread)

-- ---- no op is added

module _ (p : Op → ℕ → Type 0) (stays : List Bool) where
  regions_giving_ops : (rs : RegionTrees) → RegionsOps p rs → RegionsOps p (regions_giving stays rs)
  regions_giving_ops no_regions h = h
  regions_giving_ops (region_then (region args nodes results) rs) h = (h.0, regions_giving_ops rs h.1)

  pub node_giving_ops : (x : NodeTree) → NodeOps p x → NodeOps p (node_giving stays x)
  node_giving_ops (node id op inputs rs) h = (h.0, regions_giving_ops rs h.1)

  nodes_giving_ops : (n : ℕ) (ns : NodeTrees) → NodesOps p ns → NodesOps p (nodes_giving n stays ns)
  nodes_giving_ops n no_nodes h = h
  nodes_giving_ops n (node_then x ns) h = by (id_of x == n) (nodes_giving_ops n ns h.1)
    where
      by : (t : Bool) → NodesOps p (nodes_giving n stays ns) →
          NodesOps p (cond t (node_then (node_giving stays x) (nodes_redirected (output_after n stays) ns)) (node_then x (nodes_giving n stays ns)))
      by true rest = (node_giving_ops x h.0, redirected_ops p (output_after n stays) ns h.1)
      by false rest = (h.0, rest)

  pub exits_kept_ops : (n : ℕ) (r : RegionTree) → RegionOps p r → RegionOps p (exits_kept n stays r)
  exits_kept_ops n (region args nodes results) h = nodes_giving_ops n nodes h
