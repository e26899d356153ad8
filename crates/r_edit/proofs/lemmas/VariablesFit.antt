-- A Theta without some of its loop variables fits in its place.
use Rattle.std.proofs.Common.{◌≡◌, ℕ, Bool, true, false, ◌&&◌, List, [], ◌∷◌, ◌++◌, map, length, Some, refl, sym, ap, subst, ◌∙◌, arith}
use Rattle.std.proofs.lemmas.Bool.{and_parts}
use Rattle.g_graph.specs.declared.op.Kind.{Kind}
use Rattle.g_graph.specs.declared.op.Kind.TheVariants.{Value, Memory, Io}
use Rattle.g_graph.specs.declared.op.Op.{Op}
use Rattle.g_graph.specs.declared.op.Op.TheVariants.{Theta}
use Rattle.g_graph.specs.declared.op.Origin.{Origin}
use Rattle.g_graph.specs.Plain.{RegionTree, region, NodeTree, node, NodeTrees, no_nodes, node_then, no_regions, region_then}
use Rattle.g_graph.specs.Scope.{same_kind, is_of, known}
use Rattle.g_graph.specs.WellFormed.{some_of, are, one_state_each, is_last, has_its_regions, inputs_fit, inputs_are_last}
use Rattle.g_graph.specs.WellFormed.{node_has_one_state_each, regions_fit, theta_has_states, has_its_width, has_its_object, node_fits, region_fits, every_region}
use Rattle.g_graph.specs.Change.{has_node}
use Rattle.g_graph.specs.Replace.{nodes_redirected}
use Rattle.g_graph.specs.Splice.{joined_nodes}
use Rattle.g_graph.specs.Lists.{RegionOps, NodesOps}
use Rattle.g_graph.proofs.lemmas.Indexes.{same_number_true}
use Rattle.g_graph.proofs.lemmas.Nodes.{NodeFits, KeptWithin, are_kinds}
use Rattle.g_graph.proofs.lemmas.Ops.{redirected_ops}
use Rattle.g_graph.proofs.lemmas.Redirects.{nodes_ids-redirected}
use Rattle.g_graph.proofs.lemmas.Unique.{times}
use Rattle.r_edit.specs.Uses.{is_read}
use Rattle.r_edit.specs.Places.{kept, drops_values}
use Rattle.r_edit.specs.Exits.{output_after, is_gone_output}
use Rattle.r_edit.specs.Entries.{argument_after}
use Rattle.r_edit.specs.Variables.{region_looping, loop_reads, node_looping, variables_kept}
use Rattle.g_graph.proofs.lemmas.KindLists.{are_themselves}
use Rattle.r_edit.proofs.lemmas.Kept.{kept_map, all_kept, IsState, memory, io, some_state, states_fewer}
use Rattle.r_edit.proofs.lemmas.Placed.{not_before}
use Rattle.r_edit.proofs.lemmas.ExitsFit.{fits_inside}
use Rattle.r_edit.proofs.lemmas.EntriesFit.{region_takes}
use Rattle.r_edit.proofs.lemmas.Variables.{looping_joined}
use Rattle.r_edit.proofs.lemmas.Swapped.{swapped_kept}
use Rattle.g_graph.proofs.lemmas.KindLists.{some_kind}

module _ (stays : List Bool) where
  state_stays : (k : Kind) → IsState k → (own : List Kind) → drops_values stays (map Some own) ≡ true → some_of (same_kind k) (kept stays own) ≡ some_of (same_kind k) own
  state_stays k s own v =
      sym (some_kind k (kept stays own)) ∙ ap (some_of (is_of k)) (kept_map stays Some own) ∙ some_state k s stays (map Some own) v ∙ some_kind k own

  module _ (objects : ℕ) (args : List Kind) (before : NodeTrees) (id : ℕ) (inputs : List Origin) (own : List Kind) (nodes : NodeTrees) (outs : List Origin) (after : NodeTrees)
      (here : NodeFits objects args before (node id Theta inputs (region_then (region own nodes outs) no_regions)) after) (values : drops_values stays (map Some own) ≡ true)
      (loops : loop_reads stays (region own nodes outs) ≡ false) where
    abbrev x : NodeTree
    x = node id Theta inputs (region_then (region own nodes outs) no_regions)

    abbrev y : NodeTree
    y = node id Theta (kept stays inputs) (region_then (region_looping stays (region own nodes outs)) no_regions)

    results_are : map (known own nodes) outs ≡ map Some (Value ∷ own)
    results_are = are_kinds (map (known own nodes) outs) (Value ∷ own) (and_parts (are (map (known own nodes) outs) (Value ∷ own)) true here.regions).0

    -- without the results, and then without the arguments
    looping : (map (known (kept stays own) (nodes_redirected (argument_after stays) nodes)) (map (argument_after stays) (kept (true ∷ stays) outs)) ≡ map (known own nodes) (kept (true ∷ stays) outs))
        × (every_region (region_fits objects) (region_looping stays (region own nodes outs)) ≡ true)
    looping =
        region_takes stays objects own nodes (kept (true ∷ stays) outs) loops
        (fits_inside (true ∷ stays) objects own nodes outs (ap (drops_values (true ∷ stays)) results_are ∙ values)
        (and_parts (every_region (region_fits objects) (region own nodes outs)) true here.inside).0)

    results_now : map (known (kept stays own) (nodes_redirected (argument_after stays) nodes)) (map (argument_after stays) (kept (true ∷ stays) outs)) ≡ map Some (Value ∷ kept stays own)
    results_now =
        looping.0 ∙ kept_map (true ∷ stays) (known own nodes) outs ∙ ap (kept (true ∷ stays)) results_are ∙ sym (kept_map (true ∷ stays) Some (Value ∷ own))

    regions_fit_now : regions_fit y ≡ true
    regions_fit_now =
        let now = ap (λ xs. are xs (Value ∷ kept stays own)) results_now ∙ are_themselves (Value ∷ kept stays own) in
        λ i. now i && true

    node_fits_now : node_fits objects args before x ≡ true → node_fits objects args before y ≡ true
    node_fits_now e =
        let fits = inputs_fit args before x in
        let lasts = inputs_are_last args before x in
        let states = node_has_one_state_each args before x in
        let shape = has_its_regions x in
        let regions = regions_fit x in
        let theta = theta_has_states x in
        let width = has_its_width x in
        let to_width = (and_parts (fits && lasts && states && shape && regions && theta && width) (has_its_object objects x) e).0 in
        let to_theta = and_parts (fits && lasts && states && shape && regions && theta) width to_width in
        let to_regions = and_parts (fits && lasts && states && shape && regions) theta to_theta.0 in
        let to_shape = (and_parts (fits && lasts && states && shape) regions to_regions.0).0 in
        let to_states = and_parts (fits && lasts && states) shape to_shape in
        let to_both = and_parts (fits && lasts) states to_states.0 in
        let each = and_parts (one_state_each (map (known args before) inputs)) (one_state_each (map Some own)) to_both.1 in
        let kinds = are_kinds (map (known args before) inputs) own (and_parts fits lasts to_both.0).0 in
        let inputs_now : are (map (known args before) (kept stays inputs)) (kept stays own) ≡ true =
        ap (λ xs. are xs (kept stays own)) (kept_map stays (known args before) inputs ∙ ap (kept stays) kinds ∙ sym (kept_map stays Some own)) ∙ are_themselves (kept stays own) in
        let last = all_kept (is_last args before) stays inputs (and_parts fits lasts to_both.0).1 in
        let taken = ap one_state_each (kept_map stays (known args before) inputs) ∙ states_fewer stays (map (known args before) inputs) each.0 in
        let given = ap one_state_each (kept_map stays Some own) ∙ states_fewer stays (map Some own) each.1 in
        let both : ((some_of (same_kind Memory) (kept stays own) && some_of (same_kind Io) (kept stays own)) && true) ≡ true =
        (λ i. (state_stays Memory memory own values i && state_stays Io io own values i) && true) ∙ to_regions.1 in
        λ i. inputs_now i && last i && (taken i && given i) && true && regions_fit_now i && both i && true && true

    pub variables_kept_fit : (results : List Origin) → every_region (region_fits objects) (region args (joined_nodes before (node_then x after)) results) ≡ true →
        is_read (is_gone_output id stays) (region args (joined_nodes before (node_then x after)) results) ≡ false →
        KeptWithin objects (region args (joined_nodes before (node_then x after)) results) (variables_kept id stays (region args (joined_nodes before (node_then x after)) results))
    variables_kept_fit results fits unread =
        subst (λ ns. KeptWithin objects (region args (joined_nodes before (node_then x after)) results) (region args ns (map (output_after id stays) results)))
        (sym (looping_joined stays id before x after (not_before objects args before x after here) (same_number_true id)))
        (swapped_kept objects args before x y after stays here refl (kept_map stays Some own) values results node_fits_now (λ e i. looping.1 i && true)
        (λ m. omega (arith, ap (λ ns. times m (id ∷ (ns ++ []))) (nodes_ids-redirected (argument_after stays) nodes))) fits unread)

-- ---- no op is added

-- of a property that does not ask how many inputs a Theta has
module _ (p : Op → ℕ → Type 0) (any : (m n : ℕ) → p Theta m → p Theta n) (stays : List Bool) where
  pub variables_kept_ops : (args : List Kind) (before : NodeTrees) (id : ℕ) (inputs : List Origin) (r : RegionTree) (after : NodeTrees) (results : List Origin) → has_node id before ≡ false →
      RegionOps p (region args (joined_nodes before (node_then (node id Theta inputs (region_then r no_regions)) after)) results) →
      RegionOps p (variables_kept id stays (region args (joined_nodes before (node_then (node id Theta inputs (region_then r no_regions)) after)) results))
  variables_kept_ops args before id inputs (region own nodes outs) after results none h =
      subst (NodesOps p) (sym (looping_joined stays id before (node id Theta inputs (region_then (region own nodes outs) no_regions)) after none (same_number_true id))) (by before h)
    where
      by : (front : NodeTrees) → NodesOps p (joined_nodes front (node_then (node id Theta inputs (region_then (region own nodes outs) no_regions)) after)) →
          NodesOps p (joined_nodes front (node_then (node_looping stays (node id Theta inputs (region_then (region own nodes outs) no_regions))) (nodes_redirected (output_after id stays) after)))
      by no_nodes k =
          ((any (length inputs) (length (kept stays inputs)) k.0.0, (redirected_ops p (argument_after stays) nodes k.0.1.0, tt)), redirected_ops p (output_after id stays) after k.1)
      by (node_then z ns) k = (k.0, by ns k.1)
