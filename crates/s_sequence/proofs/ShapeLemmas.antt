-- Well-formed lambdas have the shapes that sequencing rests on.
use Rattle.std.proofs.Common.{◌≡◌, ℕ, true, List, [], ◌∷◌, ◌++◌, ◌<◌, ◌^◌, map, length, ap, sym, ◌∙◌, zero-add, append-nil, arith}
use Rattle.std.specs.Prelude.{◌&&◌}
use Rattle.std.specs.declared.option.Option.TheVariants.{Some}
use Rattle.g_graph.specs.declared.op.Kind.{Kind}
use Rattle.g_graph.specs.declared.op.Kind.TheVariants.{Memory, Io}
use Rattle.g_graph.specs.declared.op.Origin.{Origin}
use Rattle.g_graph.specs.declared.op.Op.{Op}
use Rattle.g_graph.specs.declared.op.Op.TheVariants.{Gamma, Theta}
use Rattle.g_graph.specs.Plain.{RegionTree, region, NodeTree, node, NodeTrees, no_nodes, node_then, nodes_of, RegionTrees, no_regions, region_then, args_of, PlainLambda, results_of}
use Rattle.g_graph.specs.Signatures.{result_kinds}
use Rattle.g_graph.specs.Scope.{each_node}
use Rattle.g_graph.specs.WellFormed.{all_regions, are, same, kinds_of, every_region, every_in_node, every_in_nodes, every_in_regions, inputs_fit, inputs_are_last, node_has_one_state_each, has_its_regions, regions_fit, theta_has_states, has_its_width, has_its_object, node_fits, region_fits, results_are_last, returns_state, region_has_one_state_each, IsWellFormed}
use Rattle.std.proofs.lemmas.Bool.{and_parts}
use Rattle.g_graph.specs.Count.{region_values}
use Rattle.s_linear.specs.Linear.{Code, no_steps}
use Rattle.s_linear.specs.Lines.{Line, leave, code_lines}
use Rattle.g_graph.proofs.lemmas.Nodes.{are_kinds}
use Rattle.s_sequence.specs.declared.scope.Scope.{Scope}
use Rattle.s_sequence.specs.Sequence.{value_args, no_names, name_of, nodes_named, nodes_code, body_code, value_name, name_at}
use Rattle.s_sequence.specs.Scope.{port_in, name_in}
use Rattle.s_sequence.specs.Shape.{last_kinds, HasShape, RegionShaped, NodeShaped, NodesShaped, RegionsShaped}
use Rattle.s_sequence.specs.Writer.{PlainWriter, with_lines}
use Rattle.s_sequence.specs.Written.{HasRoom, region_labels, region_code, region_port}
use Rattle.s_sequence.proofs.LabelLemmas.{region_labels_values}
use Rattle.g_graph.proofs.lemmas.Nests.{regions_of_well_formed}

last_known : (args ks : List Kind) (r : RegionTree) (rs : RegionTrees) → all_regions (λ s. same (args_of s) args && are (result_kinds s) ks) (region_then r rs) ≡ true →
    last_kinds r rs ≡ map Some ks
last_known args ks r no_regions e = are_kinds (result_kinds r) ks (and_parts (same (args_of r) args) (are (result_kinds r) ks) (and_parts _ true e).0).1
last_known args ks r (region_then s rs) e =
    last_known args ks s rs (and_parts (same (args_of r) args && are (result_kinds r) ks)
    (all_regions (λ s. same (args_of s) args && are (result_kinds s) ks) (region_then s rs)) e).1

first_known : (args ks : List Kind) (r : RegionTree) (rs : RegionTrees) → all_regions (λ s. same (args_of s) args && are (result_kinds s) ks) (region_then r rs) ≡ true →
    result_kinds r ≡ map Some ks
first_known args ks r rs e =
    are_kinds (result_kinds r) ks
    (and_parts (same (args_of r) args) (are (result_kinds r) ks) (and_parts _ (all_regions (λ s. same (args_of s) args && are (result_kinds s) ks) rs) e).0).1

shape_is : (args : List Kind) (before : NodeTrees) (id : ℕ) (op : Op) (inputs : List Origin) (rs : RegionTrees) → inputs_fit args before (node id op inputs rs) ≡ true →
    has_its_regions (node id op inputs rs) ≡ true → regions_fit (node id op inputs rs) ≡ true → HasShape op inputs rs
shape_is args before id Gamma [] rs a b c = absurd (cc)
shape_is args before id Gamma (p ∷ entries) no_regions a b c = absurd (cc)
shape_is args before id Gamma (p ∷ entries) (region_then r rs) a b c =
    last_known (args_of r) (kinds_of (result_kinds r)) r rs c ∙ sym (first_known (args_of r) (kinds_of (result_kinds r)) r rs c)
shape_is args before id Theta inputs no_regions a b c = absurd (cc)
shape_is args before id Theta inputs (region_then r no_regions) a b c = tt
shape_is args before id Theta inputs (region_then r (region_then s rs)) a b c = absurd (cc)
shape_is args before id op inputs no_regions a b c = tt
shape_is args before id op inputs (region_then r rs) a b c = absurd (cc)

module _ (objects : ℕ) where
  own_shape : (args : List Kind) (before : NodeTrees) (id : ℕ) (op : Op) (inputs : List Origin) (rs : RegionTrees) →
      node_fits objects args before (node id op inputs rs) ≡ true → HasShape op inputs rs
  own_shape args before id op inputs rs e =
      let x : NodeTree = node id op inputs rs in
      let six = (and_parts _ (theta_has_states x) (and_parts _ (has_its_width x) (and_parts _ (has_its_object objects x) e).0).0).0 in
      let fit : regions_fit x ≡ true =
      (and_parts (inputs_fit args before x && inputs_are_last args before x && node_has_one_state_each args before x && has_its_regions x) (regions_fit x) six).1 in
      let five = (and_parts (inputs_fit args before x && inputs_are_last args before x && node_has_one_state_each args before x && has_its_regions x)
      (regions_fit x) six).0 in
      let has : has_its_regions x ≡ true = (and_parts (inputs_fit args before x && inputs_are_last args before x && node_has_one_state_each args before x)
      (has_its_regions x) five).1 in
      let inputs_are : inputs_fit args before x ≡ true =
      (and_parts (inputs_fit args before x) (inputs_are_last args before x)
      (and_parts (inputs_fit args before x && inputs_are_last args before x) (node_has_one_state_each args before x)
      (and_parts (inputs_fit args before x && inputs_are_last args before x && node_has_one_state_each args before x) (has_its_regions x) five).0).0).0 in
      shape_is args before id op inputs rs inputs_are has fit

  mutual
    region_is_shaped : (r : RegionTree) → every_region (region_fits objects) r ≡ true → RegionShaped r
    region_is_shaped (region args nodes results) e =
        let here : region_fits objects (region args nodes results) ≡ true = (and_parts _ (every_in_nodes (region_fits objects) nodes) e).0 in
        nodes_are_shaped args [] nodes
        (and_parts _ (results_are_last (region args nodes results)) (and_parts _ (returns_state Memory (region args nodes results))
        (and_parts _ (returns_state Io (region args nodes results)) (and_parts _ (region_has_one_state_each (region args nodes results)) here).0).0).0).0
        (and_parts (region_fits objects (region args nodes results)) _ e).1

    node_is_shaped : (args : List Kind) (before : NodeTrees) (x : NodeTree) → node_fits objects args before x ≡ true →
        every_in_node (region_fits objects) x ≡ true → NodeShaped x
    node_is_shaped args before (node id op inputs rs) e inside = (own_shape args before id op inputs rs e, regions_are_shaped rs inside)

    nodes_are_shaped : (args : List Kind) (before : List NodeTree) (ns : NodeTrees) → each_node (node_fits objects args) before ns ≡ true →
        every_in_nodes (region_fits objects) ns ≡ true → NodesShaped ns
    nodes_are_shaped args before no_nodes e inside = tt
    nodes_are_shaped args before (node_then x xs) e inside = (
      node_is_shaped args (nodes_of before) x (and_parts (node_fits objects args (nodes_of before) x) _ e).0
          (and_parts (every_in_node (region_fits objects) x) _ inside).0,
      nodes_are_shaped args (before ++ x ∷ []) xs (and_parts (node_fits objects args (nodes_of before) x) _ e).1
          (and_parts (every_in_node (region_fits objects) x) _ inside).1,
    )

    regions_are_shaped : (rs : RegionTrees) → every_in_regions (region_fits objects) rs ≡ true → RegionsShaped rs
    regions_are_shaped no_regions e = tt
    regions_are_shaped (region_then r rs) e = (
      region_is_shaped r (and_parts (every_region (region_fits objects) r) _ e).0,
      regions_are_shaped rs
          (and_parts (every_region (region_fits objects) r) _ e).1,
    )

pub body_shaped : (l : PlainLambda) → IsWellFormed l → RegionShaped l.body
body_shaped l w = region_is_shaped (length l.objects) l.body (regions_of_well_formed l w)

body_is : (r : RegionTree) → region_code 0 r no_steps ≡ body_code r
body_is (region args nodes results) = ap (λ n. nodes_code args 0 no_names n nodes no_steps) (zero-add (value_args args))

value_is : (r : RegionTree) (scope : Scope) → ((o : Origin) → port_in scope o ≡ region_port 0 r o) → name_at (map (name_in scope) (results_of r)) 0 ≡ value_name r
value_is (region args nodes rs) scope ports =
    (λ i. name_at (map (λ o. (ports o i).name) rs) 0) ∙ (λ i. name_at (map (λ o. name_of args 0 (nodes_named nodes (zero-add (value_args args) i) no_names) o) rs) 0)

-- the lines of a body after those that enter, and the line that leaves
pub body_written : (r : RegionTree) (scope : Scope) (value : ℕ) (w1 w2 w3 : PlainWriter) (heads : List Line) → w1 ≡ record { lines = heads; next = 0; label = 0 } →
    ((k : Code) → w2.lines ++ code_lines w2.label k ≡ w1.lines ++ code_lines w1.label (region_code w1.next r k)) →
    ((o : Origin) → port_in scope o ≡ region_port w1.next r o) →
    value ≡ name_at (map (name_in scope) (results_of r)) 0 → w3 ≡ with_lines w2 (leave value ∷ []) → w3.lines ≡ (heads ++ code_lines 0 (body_code r))
    ++ leave (value_name r) ∷ []
body_written r scope value w1 w2 w3 heads begins body ports e f =
    let own : w2.lines ≡ heads ++ code_lines 0 (body_code r) =
    sym (append-nil w2.lines) ∙ body no_steps ∙ ap (λ (w : PlainWriter). w.lines ++ code_lines w.label (region_code w.next r no_steps)) begins
    ∙ ap (λ c. heads ++ code_lines 0 c) (body_is r) in
    let named : value ≡ value_name r = e ∙ value_is r scope (λ o. ports o ∙ ap (λ (w : PlainWriter). region_port w.next r o) begins) in
    ap (λ (w : PlainWriter). w.lines) f ∙ ap (λ ls. ls ++ leave value ∷ []) own ∙ ap (λ v. (heads ++ code_lines 0 (body_code r)) ++ leave v ∷ []) named

pub body_room : (r : RegionTree) (w : PlainWriter) (heads : List Line) → RegionShaped r → region_values r < 2 ^ 32 → w ≡ record { lines = heads; next = 0; label = 0 } →
    HasRoom w (region_values r) (region_labels r)
body_room r w heads h few e =
    record { for_names = omega (arith, ap (λ (v : PlainWriter). v.next) e); for_labels = omega (arith, region_labels_values r h, ap (λ (v : PlainWriter). v.label) e) }
