-- Nodes and results that fit in another scope, where some origins are not read.
use Rattle.std.proofs.Common.{◌≡◌, ℕ, ◌++◌, Bool, true, false, ◌&&◌, List, [], ◌∷◌, map, refl, sym, ap, subst, ◌∙◌}
use Rattle.std.proofs.lemmas.List.{length-map}
use Rattle.std.proofs.lemmas.Bool.{and_parts, or_parts}
use Rattle.g_graph.specs.declared.op.Kind.{Kind}
use Rattle.g_graph.specs.declared.op.Op.{Op}
use Rattle.g_graph.specs.declared.op.Origin.{Origin}
use Rattle.g_graph.specs.Plain.{NodeTree, node, NodeTrees, no_nodes, node_then, RegionTrees, nodes_of}
use Rattle.g_graph.specs.Signatures.{inputs_of, outputs_of}
use Rattle.g_graph.specs.Scope.{known, each_node}
use Rattle.g_graph.specs.WellFormed.{all_of, some_of, are, one_state_each, has_its_regions, regions_fit, theta_has_states, has_its_width, has_its_object, inputs_fit, is_last, inputs_are_last, node_has_one_state_each, node_fits}
use Rattle.g_graph.specs.Replace.{node_redirected, nodes_redirected}
use Rattle.g_graph.specs.Splice.{joined_nodes}
use Rattle.g_graph.proofs.lemmas.Freed.{shape_free, regions_free, theta_free, width_free, object_free}
use Rattle.g_graph.proofs.lemmas.Splices.{joined_none, joined_following}
use Rattle.r_edit.specs.Uses.{nodes_read}

-- An origin that is known and the last of its kind of state stays so, but for those that are gone.
pub record KeepsScope (gone : Origin → Bool) (args : List Kind) (bs : NodeTrees) (others : List Kind) (cs : NodeTrees) (f : Origin → Origin) : Type 0 where
  pub one : (o : Origin) → gone o ≡ false → is_last args bs o ≡ true → (known others cs (f o) ≡ known args bs o) × (is_last others cs (f o) ≡ true)

module _ (gone : Origin → Bool) (objects : ℕ) (args others : List Kind) (f : Origin → Origin) where
  pub kept_all : (bs cs : NodeTrees) → KeepsScope gone args bs others cs f → (os : List Origin) → some_of gone os ≡ false → all_of (is_last args bs) os ≡ true →
      (map (known others cs) (map f os) ≡ map (known args bs) os) × (all_of (is_last others cs) (map f os) ≡ true)
  kept_all bs cs m [] u e = (refl, refl)
  kept_all bs cs m (o ∷ os) u e =
      let unread = or_parts (gone o) (some_of gone os) u in
      let last = and_parts (is_last args bs o) (all_of (is_last args bs) os) e in
      let one = m.one o unread.0 last.0 in
      let rest = kept_all bs cs m os unread.1 last.1 in
      (λ i. one.0 i ∷ rest.0 i, λ i. one.1 i && rest.1 i)

  pub kept_node_fits : (bs cs : NodeTrees) → KeepsScope gone args bs others cs f → (id : ℕ) (op : Op) (inputs : List Origin) (rs : RegionTrees) → some_of gone inputs ≡ false →
      node_fits objects args bs (node id op inputs rs) ≡ true → node_fits objects others cs (node id op (map f inputs) rs) ≡ true
  kept_node_fits bs cs m id op inputs rs u e =
      let x = node id op inputs rs in
      let fits = inputs_fit args bs x in
      let lasts = inputs_are_last args bs x in
      let states = node_has_one_state_each args bs x in
      let shape = has_its_regions x in
      let regions = regions_fit x in
      let theta = theta_has_states x in
      let width = has_its_width x in
      let to_width = (and_parts (fits && lasts && states && shape && regions && theta && width) (has_its_object objects x) e).0 in
      let to_theta = (and_parts (fits && lasts && states && shape && regions && theta) width to_width).0 in
      let to_regions = (and_parts (fits && lasts && states && shape && regions) theta to_theta).0 in
      let to_shape = (and_parts (fits && lasts && states && shape) regions to_regions).0 in
      let to_states = (and_parts (fits && lasts && states) shape to_shape).0 in
      let last : all_of (is_last args bs) inputs ≡ true = (and_parts fits lasts (and_parts (fits && lasts) states to_states).0).1 in
      let all = kept_all bs cs m inputs u last in
      let same : node_fits objects others cs (node id op (map f inputs) rs) ≡ node_fits objects args bs x =
      λ i.
      are (all.0 i) (inputs_of op (length-map inputs f i) rs) && (all.1 ∙ sym last) i && (one_state_each (all.0 i) && one_state_each (outputs_of op rs))
      && shape_free id op inputs (map f inputs) rs i && regions_free id op inputs (map f inputs) rs i && theta_free id op inputs (map f inputs) rs i
      && width_free id op inputs (map f inputs) rs i && object_free objects id op inputs (map f inputs) rs i in
      same ∙ e

  -- nodes fit in the other scope, where origins keep their kinds after each of them
  pub kept_nodes_fit : (bs cs : List NodeTree) (ns : NodeTrees) →
      ((front rest : NodeTrees) → ns ≡ joined_nodes front rest → KeepsScope gone args (joined_nodes (nodes_of bs) front) others (joined_nodes (nodes_of cs) (nodes_redirected f front)) f) →
      nodes_read gone ns ≡ false → each_node (node_fits objects args) bs ns ≡ true → each_node (node_fits objects others) cs (nodes_redirected f ns) ≡ true
  kept_nodes_fit bs cs no_nodes m u e = refl
  kept_nodes_fit bs cs (node_then (node id op inputs rs) xs) m u e =
      let x = node id op inputs rs in
      let unread = or_parts (some_of gone inputs) (nodes_read gone xs) u in
      let here = and_parts (node_fits objects args (nodes_of bs) x) (each_node (node_fits objects args) (bs ++ x ∷ []) xs) e in
      let scope : KeepsScope gone args (nodes_of bs) others (nodes_of cs) f =
      subst (λ ns. KeepsScope gone args (nodes_of bs) others ns f) (joined_none (nodes_of cs))
      (subst (λ ns. KeepsScope gone args ns others (joined_nodes (nodes_of cs) no_nodes) f) (joined_none (nodes_of bs)) (m no_nodes (node_then x xs) refl)) in
      let one = kept_node_fits (nodes_of bs) (nodes_of cs) scope id op inputs rs unread.0 here.0 in
      let more = kept_nodes_fit (bs ++ x ∷ []) (cs ++ node_redirected f x ∷ []) xs
      (λ front following w.
      subst (λ ns. KeepsScope gone args (joined_nodes (nodes_of (bs ++ x ∷ [])) front) others ns f) (sym (joined_following cs (node_redirected f x) (nodes_redirected f front)))
      (subst (λ ns. KeepsScope gone args ns others (joined_nodes (nodes_of cs) (node_then (node_redirected f x) (nodes_redirected f front))) f) (sym (joined_following bs x front))
      (m (node_then x front) following (ap (λ ns. node_then x ns) w))))
      unread.1 here.1 in
      λ i. one i && more i
